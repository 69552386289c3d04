use Rattle.std.proofs.Common.{length}
use Rattle.kd_loops.proofs.Looking.{is_some}
use Rattle.kd_log.proofs.Lines.{cut_lines}
use Rattle.kd_log.proofs.leases.line.next_line.Goals as goal

pub returns : goal.returns
returns c = cut_lines c.cut.ensures (is_some (length c.args.text.now) c.if-is_empty.ensures)
