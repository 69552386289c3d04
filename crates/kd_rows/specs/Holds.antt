-- How long the rows of each state hold after they were set.
use Rattle.std.specs.Prelude.{ℕ, ◌+◌, ◌≤◌, List}
use Rattle.std.specs.List.{All}
use Rattle.kd_rows.specs.declared.holds.Holds.{Holds}
use Rattle.kd_rows.specs.declared.row.Row.{Row}
use Rattle.kd_rows.specs.declared.row.State.{State}
use Rattle.kd_rows.specs.declared.row.State.TheVariants.{Offered, Bound, Released, Declined}

-- how long a row of a state holds at most
abbrev pub hold_of : Holds → State → ℕ
hold_of holds Offered = holds.offered
hold_of holds Bound = holds.bound
hold_of holds Released = holds.released
hold_of holds Declined = holds.declined

-- no row holds longer than its state allows
abbrev pub AreHolds : Holds → List Row → Type 0
AreHolds holds rows = All (λ row. row.ends ≤ row.changed + hold_of holds row.state) rows

-- with one more row no state's time gets shorter, and the row holds no longer than its state's time
pub record IsLonger (old : Holds) (row : Row) (new : Holds) : Type 0 where
  pub others : (state : State) → hold_of old state ≤ hold_of new state
  pub own : row.ends ≤ row.changed + hold_of new row.state
