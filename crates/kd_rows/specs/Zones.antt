-- The zones of addresses that cuts make; used only in private contracts and invariants.
use Rattle.std.specs.Prelude.{◌≡◌, ℕ, ◌+◌, ◌*◌, ◌-◌, ◌^◌, ◌<◌, ◌≤◌, min, Bool, true, not, ◌&&◌, ◌==◌, List, [], ◌∷◌, Option, Some, None, nat_lt, if◌then◌else◌}
use Rattle.kd_rows.specs.Row.{state_number}
use Rattle.kd_rows.specs.Table.{belongs_to, is_after, is_newer_row, row_at}
use Rattle.kd_rows.specs.declared.row.Row.{Row}
use Rattle.kd_rows.specs.declared.row.State.{State}

-- how many cuts are at an address or below it, before the first cut above it
abbrev pub cuts_to : List ℕ → ℕ → ℕ
cuts_to [] a = 0
cuts_to (cut ∷ cuts) a = if nat_lt a cut then 0 else cuts_to cuts a + 1

-- the zone of an address: a 32-bit number that does not fall as the address grows
abbrev pub zone_in : List ℕ → ℕ → ℕ
zone_in cuts a = min (cuts_to cuts a) (2 ^ 32 - 1)

-- a state and a zone as one number
abbrev pub group_number : State → ℕ → ℕ
group_number state zone = state_number state * 2 ^ 32 + zone

-- the group of a row: its state and the zone of its address
abbrev pub group_in : List ℕ → Row → ℕ
group_in cuts row = group_number row.state (zone_in cuts row.address)

-- a row of a client and a group, from first to last, after another in the age order
abbrev pub is_in_group : List ℕ → List ℕ → ℕ → ℕ → ℕ → Option Row → Row → Bool
is_in_group cuts client group first last before row =
    belongs_to client row
    && ((group_in cuts row == group)
    && (not (nat_lt row.address first) && (not (nat_lt last row.address) && is_after before row)))

-- a row of a client in a state
abbrev pub is_kind : List ℕ → State → Row → Bool
is_kind client state row = belongs_to client row && (state_number row.state == state_number state)

-- the next zone after one in which a client has rows in a state: it has none in the zones between
abbrev pub IsNextZone : List Row → List ℕ → List ℕ → State → ℕ → Option ℕ → Type 0
IsNextZone rows cuts client state zone None =
    (a : ℕ) (row : Row) → row_at rows a ≡ Some row → is_kind client state row ≡ true
    → zone_in cuts row.address ≤ zone
IsNextZone rows cuts client state zone (Some next) =
    (zone < next)
    × ((a : ℕ) (row : Row) → row_at rows a ≡ Some row → is_kind client state row ≡ true
    → zone_in cuts row.address < next → zone_in cuts row.address ≤ zone)

-- the newer of two rows, either of which may be missing
abbrev pub newer_of_rows : Option Row → Option Row → Option Row
newer_of_rows None other = other
newer_of_rows (Some row) None = Some row
newer_of_rows (Some row) (Some other) = if is_newer_row other row then Some other else Some row
