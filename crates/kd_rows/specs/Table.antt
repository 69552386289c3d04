-- The table of leases: its rows, one per address, in ascending order of address.
use Rattle.std.specs.Prelude.{◌≡◌, ℕ, ◌+◌, ◌-◌, ◌^◌, ◌<◌, ◌≤◌, max, min, Bool, true, false, ◌||◌, ◌&&◌, not, List, [], ◌∷◌, map, Option, Some, None, is_some, IsSome, nat_eq, nat_lt, ◌==◌, if◌then◌else◌}
use Rattle.std.specs.List.{filter}
use Rattle.std.specs.Cmp.Lexicographic.{pointwise}
use Rattle.kd_rows.specs.declared.row.Row.{Row}
use Rattle.kd_rows.specs.declared.row.State.{State}
use Rattle.kd_rows.specs.Row.{state_number}

-- the rows, a time before which none of them ends, and the least number of new addresses for which
-- there is memory
pub record Table : Type 0 where
  pub rows : List Row
  pub least : ℕ
  pub room : ℕ

-- each address is at least n and above those before it
abbrev pub RiseFrom : ℕ → List Row → Type 0
RiseFrom n [] = Unit {0}
RiseFrom n (row ∷ rows) = (n ≤ row.address) × RiseFrom (row.address + 1) rows

-- the rows are in ascending order of address, one per address
abbrev pub Rise : List Row → Type 0
Rise rows = RiseFrom 0 rows

-- the row at an address
abbrev pub row_at : List Row → ℕ → Option Row
row_at [] a = None
row_at (row ∷ rows) a = if row.address == a then Some row else row_at rows a

-- the rows after one is set: it replaces the row at its address, or goes where its address belongs
abbrev pub with_row : Row → List Row → List Row
with_row row [] = row ∷ []
with_row row (r ∷ rows) =
    if nat_lt row.address r.address then row ∷ r ∷ rows else if r.address == row.address then row
    ∷ rows else r ∷ with_row row rows

-- the rows after several are set, one after another
abbrev pub with_rows : List Row → List Row → List Row
with_rows [] table = table
with_rows (row ∷ rows) table = with_rows rows (with_row row table)

-- the latest time at which a row was set, or 0 if there are no rows
abbrev pub latest_of : List Row → ℕ
latest_of [] = 0
latest_of (row ∷ rows) = max row.changed (latest_of rows)

-- the earliest time at which a row ends, or the greatest time if there are no rows
abbrev pub least_of : List Row → ℕ
least_of [] = 2 ^ 64 - 1
least_of (row ∷ rows) = min row.ends (least_of rows)

-- a row belongs to this client
abbrev pub belongs_to : List ℕ → Row → Bool
belongs_to client row = pointwise nat_eq row.client client

-- the addresses of a client's rows, in the order of the rows
abbrev pub addresses_of : List ℕ → List Row → List ℕ
addresses_of client rows = map (λ row. row.address) (filter (belongs_to client) rows)

-- a row can be set without taking memory
abbrev pub room_for_row : Table → Row → Bool
room_for_row table row = is_some (row_at table.rows row.address) || nat_lt 0 table.room

-- the lowest address from first to last that has no row, or that every one has a row
abbrev pub IsFirstGap : List Row → ℕ → ℕ → Option ℕ → Type 0
IsFirstGap rows first last None = (a : ℕ) → first ≤ a → a ≤ last → IsSome (row_at rows a)
IsFirstGap rows first last (Some gap) =
    (first ≤ gap) × (gap ≤ last) × (row_at rows gap ≡ None)
    × ((a : ℕ) → first ≤ a → a < gap → IsSome (row_at rows a))

-- the row with the lowest address from a on, or that there is none
abbrev pub IsNext : List Row → ℕ → Option Row → Type 0
IsNext rows a None = (b : ℕ) → a ≤ b → row_at rows b ≡ None
IsNext rows a (Some row) =
    (row_at rows row.address ≡ Some row) × (a ≤ row.address)
    × ((b : ℕ) → a ≤ b → b < row.address → row_at rows b ≡ None)

-- the client's row with the lowest address from first to last, or that it has none there
abbrev pub IsNextOf : List Row → List ℕ → ℕ → ℕ → Option Row → Type 0
IsNextOf rows client first last None =
    (a : ℕ) (row : Row) → first ≤ a → a ≤ last → row_at rows a ≡ Some row
    → belongs_to client row ≡ false
IsNextOf rows client first last (Some row) =
    (row_at rows row.address ≡ Some row) × (first ≤ row.address) × (row.address ≤ last)
    × (belongs_to client row ≡ true)
    × ((a : ℕ) (other : Row) → first ≤ a → a < row.address → row_at rows a ≡ Some other
    → belongs_to client other ≡ false)

-- the first of two rows is newer: it was set later, or at the same time and its address is lower
abbrev pub is_newer_row : Row → Row → Bool
is_newer_row row other =
    nat_lt other.changed row.changed
    || ((row.changed == other.changed) && nat_lt row.address other.address)

-- a row comes after another in the age order; every row does if there is no other
abbrev pub is_after : Option Row → Row → Bool
is_after None row = true
is_after (Some before) row = is_newer_row before row

-- a row of a client, in a state, from first to last, after another in the age order
abbrev pub is_aged : List ℕ → State → ℕ → ℕ → Option Row → Row → Bool
is_aged client state first last before row =
    belongs_to client row
    && ((state_number row.state == state_number state)
    && (not (nat_lt row.address first) && (not (nat_lt last row.address) && is_after before row)))

-- the newest of the rows that meet a condition, or that none meets it
abbrev pub IsNewestRow : List Row → (Row → Bool) → Option Row → Type 0
IsNewestRow rows such None = (a : ℕ) (row : Row) → row_at rows a ≡ Some row → such row ≡ false
IsNewestRow rows such (Some row) =
    (row_at rows row.address ≡ Some row) × (such row ≡ true)
    × ((a : ℕ) (other : Row) → row_at rows a ≡ Some other → such other ≡ true
    → is_newer_row other row ≡ false)

-- the row with the lowest address from first to last that has ended at a time, or that there is
-- none
abbrev pub IsNextEnded : List Row → ℕ → ℕ → ℕ → Option Row → Type 0
IsNextEnded rows first last moment None =
    (a : ℕ) (row : Row) → first ≤ a → a ≤ last → row_at rows a ≡ Some row → moment < row.ends
IsNextEnded rows first last moment (Some row) =
    (row_at rows row.address ≡ Some row) × (first ≤ row.address) × (row.address ≤ last)
    × (row.ends ≤ moment)
    × ((a : ℕ) (other : Row) → first ≤ a → a < row.address → row_at rows a ≡ Some other
    → moment < other.ends)
