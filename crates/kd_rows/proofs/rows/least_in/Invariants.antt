use Rattle.std.proofs.Common.{◌≡◌, take}
use Rattle.kd_rows.specs.Table.{least_of}
use Rattle.kd_rows.proofs.rows.least_in.Given as goal

abbrev pub invariant-loop-row : goal.invariant-loop-row
invariant-loop-row l = l.least ≡ least_of (take l.row-index l.rows)
