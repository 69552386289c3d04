use Rattle.std.proofs.Common.{◌≡◌, drop, max}
use Rattle.kd_rows.specs.Table.{latest_of}
use Rattle.kd_rows.proofs.rows.latest_in.Given as goal

abbrev pub invariant-loop-row : goal.invariant-loop-row
invariant-loop-row l = max l.latest (latest_of (drop l.row-index l.rows)) ≡ latest_of l.rows
