-- Rows by address, as a map keeps them.
use Rattle.std.proofs.Common.{◌≡◌, ℕ, List, [], ◌∷◌, refl, arith}
use Rattle.std.specs.BTreeMap.{insert_entry, is_at}
use Rattle.std.specs.Map.{lookup}
use Rattle.std.specs.Ordering.{nat_cmp}
use Rattle.std.proofs.lemmas.Bool.Decides.{nat_tests}
use Rattle.kd_rows.specs.declared.row.Row.{Row}
use Rattle.kd_rows.specs.Table.{row_at, with_row}
use Rattle.kd_log.specs.LeaseParts.{by_address}

-- inserting a row at its address sets it
pub put_by_address : (row : Row) (rows : List Row) → insert_entry nat_cmp (by_address rows) row.address row ≡ by_address (with_row row rows)
put_by_address row [] = refl
put_by_address row (r ∷ rows) = let h = put_by_address row rows in grind (arith, nat_tests)

-- the row found at an address is its row
pub found_by_address : (a : ℕ) (rows : List Row) → lookup (is_at (nat_cmp a)) (by_address rows) ≡ row_at rows a
found_by_address a [] = refl
found_by_address a (r ∷ rows) = let h = found_by_address a rows in grind (arith, nat_tests)
