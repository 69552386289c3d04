-- What is printed of the leases of a table, read back.
use Rattle.std.proofs.Common.{◌≡◌, ℕ, ◌+◌, ◌<◌, ◌≤◌, false, List, [], ◌∷◌, ◌++◌, map, refl, sym, ap, ◌∙◌, arith, append_assoc}
use Rattle.std.specs.Prelude.{nat_eq, max}
use Rattle.std.specs.List.{All, AllByRecursion, AllZip, IsDistinct, flat_map}
use Rattle.std.proofs.lemmas.Bool.{ne_eqb}
use Rattle.std.proofs.lemmas.Bool.Decides.{nat_tests}
use Rattle.std.proofs.lemmas.List.Elements.{All-head, All-tail}
use Rattle.kd_listing.specs.Leases.{lease_line, lease_of_row, leases_of_rows}
use Rattle.kd_listing.specs.declared.leases.Lease.{Lease}
use Rattle.kd_loops.specs.Lines.{lines_of}
use Rattle.kd_loops.proofs.Looking.{lines_line}
use Rattle.kd_rows.specs.Table.{RiseFrom, latest_of, with_row, with_rows}
use Rattle.kd_rows.specs.declared.row.Row.{Row}
use Rattle.kd_log.specs.Import.{IsLeaseLine, IsStorable, lease_addresses}
use Rattle.kd_log.specs.Laws.{PrintedIsRead}
use Rattle.kd_log.proofs.Printed.{body, body_plain, printed}

first_line : (lease : Lease) (rest : List ℕ) → IsStorable lease.row → lines_of (lease_line lease ++ rest) ≡ body lease ∷ lines_of rest
first_line lease rest is =
    ap (λ t. lines_of (t ++ rest)) (printed lease) ∙ ap lines_of (append_assoc (body lease) (10 ∷ []) rest) ∙ lines_line (body lease) rest (body_plain lease is)

-- each printed line is that of its lease
lines_are : (now : ℕ) (rows : List Row) → All IsStorable rows → AllZip IsLeaseLine (lines_of (flat_map lease_line (map (lease_of_row now) rows))) (map (lease_of_row now) rows)
lines_are now [] are = tt
lines_are now (row ∷ rows) are =
    let lease = lease_of_row now row in
    let is = All-head IsStorable row rows are in
    let rest = lines_are now rows (All-tail IsStorable row rows are) in
    rw (first_line lease (flat_map lease_line (map (lease_of_row now) rows)) is) (record { printed = printed lease; storable = is }, rest)

-- ascending rows that begin above an address do not have it
others : (now a n : ℕ) (rows : List Row) → a < n → RiseFrom n rows → AllByRecursion (λ y. nat_eq a y ≡ false) (lease_addresses (map (lease_of_row now) rows))
others now a n [] less rise = tt
others now a n (row ∷ rows) less rise =
    (ne_eqb a row.address (λ e. absurd (omega (arith, e, rise.0))), others now a (row.address + 1) rows (omega (arith, rise.0)) rise.1)

apart_from : (now n : ℕ) (rows : List Row) → RiseFrom n rows → IsDistinct nat_eq (lease_addresses (map (lease_of_row now) rows))
unfolding IsDistinct
apart_from now n [] rise = tt
apart_from now n (row ∷ rows) rise = (others now row.address (row.address + 1) rows (omega arith) rise.1, apart_from now (row.address + 1) rows rise.1)

-- each address is below n
abbrev Below : ℕ → List Row → Type 0
Below n [] = Unit {0}
Below n (row ∷ rows) = (row.address < n) × Below n rows

below_more : (n m : ℕ) (rows : List Row) → n ≤ m → Below n rows → Below m rows
below_more n m [] le below = tt
below_more n m (row ∷ rows) le below = (omega (arith, le, below.0), below_more n m rows le below.1)

below_push : (n : ℕ) (rows : List Row) (row : Row) → Below n rows → row.address < n → Below n (rows ++ row ∷ [])
below_push n [] row below less = (less, tt)
below_push n (r ∷ rows) row below less = (below.0, below_push n rows row below.1 less)

set_last : (row : Row) (table : List Row) → Below row.address table → with_row row table ≡ table ++ row ∷ []
set_last row [] below = refl
set_last row (r ∷ table) below =
    let h = set_last row table below.1 in
    let g : r.address < row.address = below.0 in
    grind (arith, nat_tests)

rows_of : (now : ℕ) (rows : List Row) → map (λ (lease : Lease). lease.row) (map (lease_of_row now) rows) ≡ rows
rows_of now [] = refl
rows_of now (row ∷ rows) = ap (λ r. row ∷ r) (rows_of now rows)

-- ascending rows, set one after another, come after those below
set_rising : (n : ℕ) (rows table : List Row) → Below n table → RiseFrom n rows → with_rows rows table ≡ table ++ rows
set_rising n [] table below rise = sym (append_nil table)
  where
    append_nil : (xs : List Row) → xs ++ [] ≡ xs
    append_nil [] = refl
    append_nil (x ∷ xs) = ap (λ r. x ∷ r) (append_nil xs)
set_rising n (row ∷ rows) table below rise =
    let under = below_more n row.address table rise.0 below in
    let more = below_push (row.address + 1) table row (below_more n (row.address + 1) table (omega (arith, rise.0)) below) (omega arith) in
    ap (with_rows rows) (set_last row table under) ∙ set_rising (row.address + 1) rows (table ++ row ∷ []) more rise.1 ∙ append_assoc table (row ∷ []) rows

pub printed_is_read : PrintedIsRead
printed_is_read moment table rise are =
    let now = max moment (latest_of table) in
    record {
      leases = leases_of_rows moment table;
      lines = record { each = lines_are now table are; apart = apart_from now 0 table rise };
      set = sym (ap (λ rows. with_rows rows []) (rows_of now table) ∙ set_rising 0 table [] tt rise);
    }
