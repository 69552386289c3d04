-- A row of the table of leases: the number of its state, and the ranges of its times.
use Rattle.std.specs.Prelude.{ℕ, ◌+◌, ◌^◌, ◌<◌, ◌≤◌}
use Rattle.kd_rows.specs.declared.row.Row.{Row}
use Rattle.kd_rows.specs.declared.row.State.{State}
use Rattle.kd_rows.specs.declared.row.State.TheVariants.{Offered, Bound, Released, Declined}

-- the number by which a state is stored
abbrev pub state_number : State → ℕ
state_number Offered = 1
state_number Bound = 2
state_number Released = 3
state_number Declined = 4

-- the times of a row can be stored: it was set below 2 ^ 40, and ends no earlier than that and at
-- most 2 ^ 31 - 1 seconds later
pub record IsInRange (row : Row) : Type 0 where
  pub set_at : row.changed < 2 ^ 40
  pub earliest : row.changed ≤ row.ends
  pub last : row.ends ≤ row.changed + 2147483647
