-- Several rows set, one after another.
use Rattle.std.proofs.Common.{◌≡◌, List, [], ◌∷◌, ◌++◌, refl}
use Rattle.kd_rows.specs.Table.{with_row, with_rows}
use Rattle.kd_rows.specs.declared.row.Row.{Row}

-- some rows set, and then others
pub with_rows_append : (rows more table : List Row) → with_rows (rows ++ more) table ≡ with_rows more (with_rows rows table)
with_rows_append [] more table = refl
with_rows_append (row ∷ rows) more table = with_rows_append rows more (with_row row table)

-- one more row set
pub with_rows_push : (rows : List Row) (row : Row) (table : List Row) → with_rows (rows ++ row ∷ []) table ≡ with_row row (with_rows rows table)
with_rows_push rows row table = with_rows_append rows (row ∷ []) table
