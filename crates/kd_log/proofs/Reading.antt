-- A text read line by line: what is known about the lines so far.
use Rattle.std.proofs.Common.{◌≡◌, ℕ, ◌+◌, Bool, true, false, List, [], ◌∷◌, ◌++◌, map, Option, Some, inr, refl, sym, ap, ◌∙◌, arith, append_assoc, length, length-append, is_some, true≢false}
use Rattle.std.specs.Prelude.{nat_eq, ◌||◌, ◌==◌, if◌then◌else◌}
use Rattle.std.specs.Cmp.{nat_eq_equiv}
use Rattle.std.specs.List.{All, AllZip, IsDistinct, list_any}
use Rattle.std.proofs.lemmas.Bool.{eqb-true}
use Rattle.std.proofs.lemmas.Bool.Decides.{nat_tests}
use Rattle.std.proofs.lemmas.List.{append-nil, map-append}
use Rattle.std.proofs.lemmas.Map.Keys.{IsDistinct-push}
use Rattle.std.proofs.lemmas.Map.Views.{Contains-from_any}
use Rattle.kd_listing.specs.declared.leases.Lease.{Lease}
use Rattle.kd_loops.specs.Lines.{lines_of}
use Rattle.kd_rows.specs.Row.{IsInRange}
use Rattle.kd_rows.specs.Table.{Rise, row_at, with_row, with_rows}
use Rattle.kd_rows.specs.declared.row.Row.{Row}
use Rattle.kd_rows.proofs.Several.{with_rows_push}
use Rattle.kd_rows.proofs.Sets.{all-with_row, rise-with_row, row_at-with_row}
use Rattle.kd_log.specs.Import.{AreLeaseLines, IsBadLine, IsLeaseLine, IsNoLeaseLine, IsTable, lease_addresses}
use Rattle.kd_log.specs.LeaseParts.{by_address}
use Rattle.kd_log.proofs.Zipped.{not_before, zip_head, zip_nil, zip_push, zip_split}

-- the table of leases
abbrev pub table_of : List Lease → List Row
table_of leases = with_rows (map (λ (lease : Lease). lease.row) leases) []

-- the lines so far are those of leases, in only one way; their table and their number are kept
pub record Read (all rest : List (List ℕ)) (entries : List (ℕ × Row)) (number : ℕ) : Type 0 where
  pub before : List (List ℕ)
  pub leases : List Lease
  pub whole : all ≡ before ++ rest
  pub counted : number ≡ length before
  pub lines : AreLeaseLines before leases
  pub one : (others : List Lease) → AllZip IsLeaseLine before others → others ≡ leases
  pub kept : entries ≡ by_address (table_of leases)

pub read_none : (all : List (List ℕ)) (entries : List (ℕ × Row)) → entries ≡ [] → Read all all entries 0
unfolding IsDistinct
read_none all entries none = record {
  before = [];
  leases = [];
  whole = refl;
  counted = refl;
  lines = record { each = tt; apart = tt };
  one = λ others are. zip_nil IsLeaseLine others are;
  kept = none;
}

had_row : (row : Row) (table : List Row) (a : ℕ) → is_some (row_at (with_row row table) a) ≡ (nat_eq a row.address || is_some (row_at table a))
had_row row table a = ap is_some (row_at-with_row row table a) ∙ by (grind (arith, nat_tests))
  where
    by : (row.address == a) ≡ nat_eq a row.address → is_some (if row.address == a then Some row else row_at table a) ≡ (nat_eq a row.address || is_some (row_at table a))
    by e = rw e (or (nat_eq a row.address) (row_at table a))
      where
        or : (t : Bool) (o : Option Row) → is_some (if t then Some row else o) ≡ (t || is_some o)
        or true o = refl
        or false o = refl

or_swap : (a b c : Bool) → (a || (b || c)) ≡ ((b || a) || c)
or_swap true true c = refl
or_swap true false c = refl
or_swap false true c = refl
or_swap false false c = refl

or_none : (a : Bool) → (a || false) ≡ a
or_none true = refl
or_none false = refl

had_from : (leases : List Lease) (table : List Row) (a : ℕ) → is_some (row_at (with_rows (map (λ (lease : Lease). lease.row) leases) table) a) ≡ (list_any (nat_eq a) (lease_addresses leases) || is_some (row_at table a))
had_from [] table a = refl
had_from (lease ∷ leases) table a =
    had_from leases (with_row lease.row table) a ∙ ap (λ t. list_any (nat_eq a) (lease_addresses leases) || t) (had_row lease.row table a)
    ∙ or_swap (list_any (nat_eq a) (lease_addresses leases)) (nat_eq a lease.row.address) (is_some (row_at table a))

-- the table has a row for exactly the addresses of the leases
pub had : (leases : List Lease) (a : ℕ) → is_some (row_at (table_of leases) a) ≡ list_any (nat_eq a) (lease_addresses leases)
had leases a = had_from leases [] a ∙ or_none (list_any (nat_eq a) (lease_addresses leases))

module _ {all : List (List ℕ)} {line : List ℕ} {rest : List (List ℕ)} {entries : List (ℕ × Row)} {number : ℕ} (p : Read all (line ∷ rest) entries number) (lease : Lease) (is : IsLeaseLine line lease)
    (sole : (other : Lease) → IsLeaseLine line other → other ≡ lease) where
  one_more : (others : List Lease) → AllZip IsLeaseLine (p.before ++ line ∷ []) others → others ≡ p.leases ++ lease ∷ []
  one_more others are =
      let parts = zip_split IsLeaseLine p.before (line ∷ []) others are in
      let last = zip_head IsLeaseLine line [] parts.back parts.later in
      let none = zip_nil IsLeaseLine last.back last.later in
      let first = p.one parts.front parts.first in
      let here = sole last.here last.is in
      let e : parts.back ≡ lease ∷ [] = cc in
      cc

  -- one more line, with an address that no earlier line has
  pub read_more : (entries' : List (ℕ × Row)) (number' : ℕ) → is_some (row_at (table_of p.leases) lease.row.address) ≡ false → entries' ≡ by_address (with_row lease.row (table_of p.leases)) → number' ≡ number + 1
      → Read all rest entries' number'
  read_more entries' number' free put next =
      let leases = p.leases in
      let rows = map (λ (lease : Lease). lease.row) leases in
      let new = sym (had leases lease.row.address) ∙ free in
      record {
        before = p.before ++ line ∷ [];
        leases = leases ++ lease ∷ [];
        whole = p.whole ∙ sym (append_assoc p.before (line ∷ []) rest);
        counted = omega (arith, p.counted, next, length-append p.before (line ∷ []));
        lines = record {
          each = zip_push IsLeaseLine p.before leases line lease p.lines.each is;
          apart = rw (map-append (λ (lease : Lease). lease.row.address) leases (lease ∷ [])) (IsDistinct-push nat_eq_equiv (lease_addresses leases) lease.row.address p.lines.apart new);
        };
        one = one_more;
        kept = put ∙ ap by_address (sym (with_rows_push rows lease.row []) ∙ ap (λ r. with_rows r []) (sym (map-append (λ (lease : Lease). lease.row) leases (lease ∷ []))));
      }

  taken_is : is_some (row_at (table_of p.leases) lease.row.address) ≡ true → list_any (nat_eq lease.row.address) (lease_addresses p.leases) ≡ true
  taken_is taken = sym (had p.leases lease.row.address) ∙ taken

  -- a line whose address is in an earlier line is bad
  pub bad_repeated : (text : List ℕ) (n : ℕ) → all ≡ lines_of text → is_some (row_at (table_of p.leases) lease.row.address) ≡ true → n ≡ number + 1 → IsBadLine text n
  bad_repeated text n of taken next = record {
    before = p.before;
    line = line;
    after = rest;
    leases = p.leases;
    whole = sym of ∙ p.whole;
    number = omega (arith, p.counted, next);
    lines = p.lines;
    bad = inr (lease, is, Contains-from_any (λ x y h. eqb-true x y h) lease.row.address (lease_addresses p.leases) (taken_is taken));
  }

  -- and a text with it describes no table
  pub no_table_repeated : (text : List ℕ) (rows : List Row) → all ≡ lines_of text → is_some (row_at (table_of p.leases) lease.row.address) ≡ true → IsTable text rows → ⊥
  no_table_repeated text rows of taken table =
      let are : AllZip IsLeaseLine (p.before ++ line ∷ rest) table.leases = rw (sym p.whole ∙ of) table.lines.each in
      let parts = zip_split IsLeaseLine p.before (line ∷ rest) table.leases are in
      let last = zip_head IsLeaseLine line rest parts.back parts.later in
      let first = p.one parts.front parts.first in
      let here = sole last.here last.is in
      let whole : table.leases ≡ p.leases ++ lease ∷ last.back = cc in
      let apart : IsDistinct nat_eq (lease_addresses p.leases ++ lease.row.address ∷ lease_addresses last.back) =
      rw (sym (map-append (λ (lease : Lease). lease.row.address) p.leases (lease ∷ last.back)), sym whole) table.lines.apart in
      true≢false (sym (taken_is taken) ∙ not_before (lease_addresses p.leases) lease.row.address (lease_addresses last.back) apart)

module _ {all : List (List ℕ)} {line : List ℕ} {rest : List (List ℕ)} {entries : List (ℕ × Row)} {number : ℕ} (p : Read all (line ∷ rest) entries number) (none : IsNoLeaseLine line) where
  -- a text with a line that is not that of a lease describes no table
  pub no_table_none : (text : List ℕ) (rows : List Row) → all ≡ lines_of text → IsTable text rows → ⊥
  no_table_none text rows of table =
      let are : AllZip IsLeaseLine (p.before ++ line ∷ rest) table.leases = rw (sym p.whole ∙ of) table.lines.each in
      let parts = zip_split IsLeaseLine p.before (line ∷ rest) table.leases are in
      let last = zip_head IsLeaseLine line rest parts.back parts.later in
      none last.here last.is

values_are : (rows : List Row) → map (λ (e : ℕ × Row). e.1) (by_address rows) ≡ rows
values_are [] = refl
values_are (row ∷ rows) = ap (λ r. row ∷ r) (values_are rows)

module _ {all : List (List ℕ)} {entries : List (ℕ × Row)} {number : ℕ} (p : Read all [] entries number) where
  -- if all lines are read, the table is that of the text
  pub table_is : (text : List ℕ) (rows : List Row) → all ≡ lines_of text → rows ≡ map (λ (e : ℕ × Row). e.1) entries → IsTable text rows
  table_is text rows of are =
      let whole = sym of ∙ p.whole ∙ append-nil p.before in
      record {
        leases = p.leases;
        lines = rw whole p.lines;
        set = are ∙ ap (map (λ (e : ℕ × Row). e.1)) p.kept ∙ values_are (table_of p.leases);
      }

  -- and the text describes no other
  pub one_table : (text : List ℕ) (rows other : List Row) → all ≡ lines_of text → rows ≡ map (λ (e : ℕ × Row). e.1) entries → IsTable text other → rows ≡ other
  one_table text rows other of are table =
      let whole = sym of ∙ p.whole ∙ append-nil p.before in
      let each : AllZip IsLeaseLine p.before table.leases = rw (sym whole) table.lines.each in
      are ∙ ap (map (λ (e : ℕ × Row). e.1)) p.kept ∙ values_are (table_of p.leases) ∙ ap table_of (sym (p.one table.leases each)) ∙ sym table.set

rise_with_rows : (rows table : List Row) → Rise table → Rise (with_rows rows table)
rise_with_rows [] table rise = rise
rise_with_rows (row ∷ rows) table rise = rise_with_rows rows (with_row row table) (rise-with_row row table rise)

pub table_rises : (text : List ℕ) (rows : List Row) → IsTable text rows → Rise rows
table_rises text rows table = rw table.set (rise_with_rows (map (λ (lease : Lease). lease.row) table.leases) [] tt)

ranges_with_rows : (lines : List (List ℕ)) (leases : List Lease) (table : List Row) → AllZip IsLeaseLine lines leases → All IsInRange table → All IsInRange (with_rows (map (λ (lease : Lease). lease.row) leases) table)
ranges_with_rows lines [] table are all = all
ranges_with_rows [] (lease ∷ leases) table are all = absurd are
ranges_with_rows (line ∷ lines) (lease ∷ leases) table are all = ranges_with_rows lines leases (with_row lease.row table) are.1 (all-with_row IsInRange lease.row table are.0.storable.range all)

pub table_ranges : (text : List ℕ) (rows : List Row) → IsTable text rows → All IsInRange rows
table_ranges text rows table = rw table.set (ranges_with_rows (lines_of text) table.leases [] table.lines.each (λ k d within. absurd (omega arith)))
