-- A client's rows by their age: helpers of private contracts only.
use Rattle.std.specs.Prelude.{ℕ, Bool, true, false, ◌&&◌, ◌||◌, ◌==◌, nat_le, List, Option, Some, None, if◌then◌else◌}
use Rattle.kd_rows.specs.Row.{state_number}
use Rattle.kd_rows.specs.Table.{row_at}
use Rattle.kd_rows.specs.declared.row.Row.{Row}
use Rattle.kd_rows.specs.declared.row.State.{State}
use Rattle.kd_config.specs.declared.pool.Pool.{Pool}
use Rattle.kd_lease.specs.Choice.{Asking, has_such, holding_state, pool_gives, pooled, same_address, set_later}
use Rattle.kd_lease.specs.Rules.{offered_state}
use Rattle.kd_lease.specs.Seeking.{sought_at}
use Rattle.kd_lease.specs.declared.candidates.Choosing.{Choosing}
use Rattle.kd_lease.specs.declared.search.Sought.{Sought}
use Rattle.kd_lease.specs.declared.search.Sought.TheVariants as seeks

-- whether a row that is sought can be in this state
abbrev pub state_sought : Sought → State → Bool
state_sought (seeks.Own choosing) state = holding_state state
state_sought (seeks.Past choosing) state = true
state_sought seeks.Offer state = offered_state state

-- an address is from first to last
abbrev pub is_within : ℕ → ℕ → ℕ → Bool
is_within first last a = nat_le first a && nat_le a last

-- a row is in a state
abbrev pub is_in_state : State → Row → Bool
is_in_state state row = state_number row.state == state_number state

-- an address from first to last is sought
abbrev pub sought_within : Asking → Sought → ℕ → ℕ → ℕ → Bool
sought_within q sought first last a = sought_at q sought a && is_within first last a

-- such an address, if its row is in a state
abbrev pub sought_in : Asking → Sought → State → ℕ → ℕ → ℕ → Bool
sought_in q sought state first last a =
    has_such (is_in_state state) (row_at q.rows a) && sought_within q sought first last a

-- only rows that have not ended are sought
abbrev pub live_sought : Sought → Bool
live_sought (seeks.Own choosing) = true
live_sought (seeks.Past choosing) = false
live_sought seeks.Offer = true

-- an address is sought and is the one reserved for the client
abbrev pub reserved_sought : Asking → Sought → Option ℕ → ℕ → Bool
reserved_sought q sought own a = sought_at q sought a && same_address own a

-- an address is sought, and a pool has it for a client in the classes with these names
abbrev pub given_sought : Asking → Sought → List (List ℕ) → Pool → ℕ → Bool
given_sought q sought names pool a = sought_at q sought a && pool_gives names pool a

-- an address is sought and is reserved for the client in a subnet, or a pool of it has it for the
-- client
abbrev pub sought_for : Asking → Sought → Choosing → ℕ → Bool
sought_for q sought choosing a =
    sought_at q sought a
    && (same_address choosing.own a || pooled choosing.question.now.names.now choosing.subnet.now a)

-- the newer of two addresses; either may be missing
abbrev pub newer_found : List Row → Option ℕ → Option ℕ → Option ℕ
newer_found rows None other = other
newer_found rows (Some a) None = Some a
newer_found rows (Some a) (Some b) = if set_later rows b a then Some b else Some a
