-- What is true of every list of rows.
use Rattle.std.specs.Prelude.{◌≡◌, ℕ, ◌≤◌, List, map, Some, if◌then◌else◌, ◌==◌}
use Rattle.std.specs.FinMap.{FinMap, from_entries, get, insert}
use Rattle.std.specs.Ordering.{nat_cmp}
use Rattle.kd_rows.specs.declared.row.Row.{Row}
use Rattle.kd_rows.specs.Table.{RiseFrom, latest_of, row_at, with_row}

-- the map from addresses that rows describe; of two rows at one address it has the first
abbrev pub map_of : List Row → FinMap nat_cmp Row
map_of rows = from_entries (map (λ (row : Row). (row.address, row)) rows)

-- rows behave as that map: reading is getting, and setting is inserting
abbrev pub RowsAreAMap : Type 0
RowsAreAMap =
    ((rows : List Row) (a : ℕ) → get (map_of rows) a ≡ row_at rows a)
    × ((row : Row) (rows : List Row)
    → map_of (with_row row rows) ≡ insert (map_of rows) row.address row)

-- after a row is set, its address has it, and every other address has what it had before
abbrev pub GetOfSet : Type 0
GetOfSet =
    (row : Row) (rows : List Row) (a : ℕ)
    → row_at (with_row row rows) a ≡ (if row.address == a then Some row else row_at rows a)

-- rows in ascending order from an address on stay so after a row is set there or above
abbrev pub RiseOfSet : Type 0
RiseOfSet =
    (row : Row) (n : ℕ) (rows : List Row) → n ≤ row.address → RiseFrom n rows
    → RiseFrom n (with_row row rows)

-- a row that is set no earlier than the others is the latest
abbrev pub LatestOfSet : Type 0
LatestOfSet =
    (row : Row) (rows : List Row) → latest_of rows ≤ row.changed
    → latest_of (with_row row rows) ≡ row.changed
