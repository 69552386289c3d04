use Rattle.std.proofs.Common.{◌≡◌, ◌-◌, take, length}
use Rattle.kd_server.proofs.trial.list_rows.Given as goal

abbrev pub invariant-loop-row : goal.invariant-loop-row
invariant-loop-row l = l.list.items ≡ take l.index l.rows.rows

abbrev pub decreases-loop-row : goal.decreases-loop-row
decreases-loop-row l = length l.rows.rows - l.index
