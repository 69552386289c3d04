-- The rows are a map from addresses.
use Rattle.std.proofs.Common.{◌≡◌, ℕ, List, [], ◌∷◌, map, refl, sym, ap, ◌∙◌, Option, Some, arith, if◌then◌else◌, ◌==◌}
use Rattle.std.specs.Cmp.{nat_cmp_total}
use Rattle.std.specs.FinMap.{find, get, get-from_entries, get-insert, insert, nat_cmp-IsAntisymmetric, same_map}
use Rattle.std.specs.Ordering.{eq_by_cmp, nat_cmp}
use Rattle.std.proofs.lemmas.Bool.Decides.{nat_tests}
use Rattle.kd_rows.specs.declared.row.Row.{Row}
use Rattle.kd_rows.specs.Laws.{map_of}
use Rattle.kd_rows.specs.Table.{row_at, with_row}
use Rattle.kd_rows.proofs.Sets.{row_at-with_row}

ties : (a b : ℕ) → eq_by_cmp nat_cmp a b ≡ (b == a)
ties a b = grind (arith, nat_tests)

found : (rows : List Row) (a : ℕ) → find nat_cmp a (map (λ (row : Row). (row.address, row)) rows) ≡ row_at rows a
found [] a = refl
found (r ∷ rows) a = rw ties (ap (λ (o : Option Row). if r.address == a then Some r else o) (found rows a))

pub get-map_of : (rows : List Row) (a : ℕ) → get (map_of rows) a ≡ row_at rows a
get-map_of rows a = get-from_entries nat_cmp_total (map (λ (row : Row). (row.address, row)) rows) a ∙ found rows a

pub map_of-with_row : (row : Row) (rows : List Row) → map_of (with_row row rows) ≡ insert (map_of rows) row.address row
map_of-with_row row rows = same_map nat_cmp_total nat_cmp-IsAntisymmetric (map_of (with_row row rows)) (insert (map_of rows) row.address row)
    (λ a. get-map_of (with_row row rows) a ∙ row_at-with_row row rows a
    ∙ sym (get-insert nat_cmp_total (map_of rows) row.address row a ∙ rw (ties a row.address) (ap (λ (o : Option Row). if row.address == a then Some row else o) (get-map_of rows a))))
