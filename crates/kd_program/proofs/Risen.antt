-- Rows in ascending order, set one after another in an empty table, are that table.
use Rattle.std.proofs.Common.{◌≡◌, ℕ, ◌+◌, ◌<◌, ◌≤◌, List, [], ◌∷◌, ◌++◌, refl, sym, ap, ◌∙◌, arith}
use Rattle.std.proofs.lemmas.Bool.Decides.{nat_tests}
use Rattle.std.proofs.lemmas.List.{append-nil, append_assoc}
use Rattle.kd_rows.specs.Table.{Rise, RiseFrom, with_row, with_rows}
use Rattle.kd_rows.specs.declared.row.Row.{Row}

-- each address is below n
abbrev Below : ℕ → List Row → Type 0
Below n [] = Unit {0}
Below n (row ∷ rows) = (row.address < n) × Below n rows

below_more : (m n : ℕ) (rows : List Row) → m ≤ n → Below m rows → Below n rows
below_more m n [] le below = tt
below_more m n (row ∷ rows) le below = (omega (arith, below.0), below_more m n rows le below.1)

below_push : (n : ℕ) (rows : List Row) (row : Row) → Below n rows → n ≤ row.address → Below (row.address + 1) (rows ++ row ∷ [])
below_push n [] row below le = (omega arith, tt)
below_push n (r ∷ rows) row below le = (omega (arith, below.0), below_push n rows row below.1 le)

-- a row above all is set at the end
at_end : (row : Row) (rows : List Row) → Below row.address rows → with_row row rows ≡ rows ++ row ∷ []
at_end row [] below = refl
at_end row (r ∷ rows) below = let rest = at_end row rows below.1 in let h = below.0 in grind (arith, nat_tests)

set_all : (done rows : List Row) (n : ℕ) → Below n done → RiseFrom n rows → with_rows rows done ≡ done ++ rows
set_all done [] n below rise = sym (append-nil done)
set_all done (row ∷ rows) n below rise =
    let here = at_end row done (below_more n row.address done rise.0 below) in
    ap (with_rows rows) here ∙ set_all (done ++ row ∷ []) rows (row.address + 1) (below_push n done row below rise.0) rise.1
    ∙ append_assoc done (row ∷ []) rows

-- rows in ascending order, set one after another in an empty table, are that table
pub rising_are_set : (rows : List Row) → Rise rows → with_rows rows [] ≡ rows
rising_are_set rows rise = set_all [] rows 0 tt rise
