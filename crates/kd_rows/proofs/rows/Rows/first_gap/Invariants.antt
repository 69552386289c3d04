use Rattle.std.proofs.Common.{ℕ, ◌-◌, ◌<◌, ◌≤◌, IsSome}
use Rattle.kd_rows.specs.Table.{row_at}
use Rattle.kd_rows.proofs.rows.Rows.first_gap.Given as goal

abbrev pub invariant-full : goal.invariant-full
invariant-full l = record {
  after : l.first ≤ l.from;
  within : l.from ≤ l.last;
  before : (a : ℕ) → l.first ≤ a → a < l.from → IsSome (row_at l.self-inside.rows.rows a);
}

abbrev pub decreases-full : goal.decreases-full
decreases-full l = l.last - l.from
