use Rattle.std.proofs.Common.{arith}
use Rattle.kd_rows.proofs.Held.{held_more}
use Rattle.kd_rows.proofs.holds.holds_in.Goals as goal

pub loop-row-preserved : goal.loop-row-preserved
loop-row-preserved c = held_more c.args.rows.now c.loop-row.row-index c.row-item.result c.loop-row.holds c.with-holds.result (omega arith) c.row-item.is c.with-holds.ensures c.loop-row.invariant
