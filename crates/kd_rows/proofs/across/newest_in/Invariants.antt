use Rattle.std.proofs.Common.{◌+◌, ◌-◌}
use Rattle.std.specs.Option.{option_copied}
use Rattle.kd_rows.specs.Table.{IsNewestRow}
use Rattle.kd_rows.proofs.Zoned.{is_aged_below}
use Rattle.kd_rows.proofs.across.newest_in.Given as goal

abbrev pub invariant-each : goal.invariant-each
invariant-each l = IsNewestRow l.rows.rows (is_aged_below l.rows.cuts l.client l.state l.first l.last (option_copied l.before) l.zone) (option_copied l.best)

abbrev pub decreases-each : goal.decreases-each
decreases-each l = l.end + 1 - l.zone
