use Rattle.std.proofs.Common.{ℕ, ◌<◌, length, get_or}
use Rattle.kd_rows.specs.declared.row.Row.{Row}
use Rattle.kd_rows.proofs.Held.{IsHeld}
use Rattle.kd_rows.proofs.holds.holds_in.Given as goal

abbrev pub invariant-loop-row : goal.invariant-loop-row
invariant-loop-row l = (k : ℕ) (d : Row) → k < l.row-index → k < length l.rows → IsHeld l.holds (get_or l.rows k d)
