-- The condition of a pool's addresses at a given time, by the lease rules: reserved, or with a row
-- in some state; and how many of them are free for a new client.
use Rattle.std.specs.Prelude.{ℕ, ◌+◌, ◌-◌, Bool, true, false, not, ◌&&◌, ◌||◌, is_none, List, length}
use Rattle.std.specs.List.{count_by, range_with_len}
use Rattle.kd_config.specs.declared.range.Range.{Range}
use Rattle.kd_lease.specs.Choice.{has_such, live_row}
use Rattle.kd_lease.specs.Kept.{bound_state}
use Rattle.kd_lease.specs.Rules.{offered_state}
use Rattle.kd_rows.specs.Table.{row_at}
use Rattle.kd_rows.specs.declared.row.Row.{Row}
use Rattle.kd_rows.specs.declared.row.State.{State}
use Rattle.kd_rows.specs.declared.row.State.TheVariants as states
use Rattle.kd_pools.specs.declared.counts.Counts.{Counts}

-- the state of addresses that are held back
abbrev pub declined_state : State → Bool
declined_state states.Declined = true
declined_state other = false

-- a row has not ended yet, and its state passes a test
abbrev pub live_in : (State → Bool) → ℕ → Row → Bool
live_in such now row = live_row now row && such row.state

-- an address has a row that has not ended yet, and whose state passes a test
abbrev pub held_in : (State → Bool) → List Row → ℕ → ℕ → Bool
held_in such rows now a = has_such (live_in such now) (row_at rows a)

-- an address has a row that has ended
abbrev pub ended_at : List Row → ℕ → ℕ → Bool
ended_at rows now a = has_such (λ row. not (live_row now row)) (row_at rows a)

-- an address has no row
abbrev pub unused_at : List Row → ℕ → Bool
unused_at rows a = is_none (row_at rows a)

-- an address is free for a new client, given the reserved addresses: it is not reserved, and it has
-- no row or a row that has ended
abbrev pub free_at : (ℕ → Bool) → List Row → ℕ → ℕ → Bool
free_at reserved rows now a = not (reserved a) && (unused_at rows a || ended_at rows now a)

-- the addresses of a range, in ascending order
abbrev pub addresses_of_range : Range → List ℕ
addresses_of_range range = range_with_len range.first (range.last - range.first + 1)

-- the counts of addresses at a given time, with these addresses reserved
abbrev pub counts_of : (ℕ → Bool) → List Row → ℕ → List ℕ → Counts
counts_of reserved rows now list =
    record {
      addresses = length list;
      reserved = count_by reserved list;
      bound = count_by (held_in bound_state rows now) list;
      offered = count_by (held_in offered_state rows now) list;
      declined = count_by (held_in declined_state rows now) list;
      ended = count_by (ended_at rows now) list;
      unused = count_by (unused_at rows) list;
      free = count_by (free_at reserved rows now) list;
    }
