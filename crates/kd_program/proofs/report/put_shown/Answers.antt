use Rattle.std.proofs.Common.{arith}
use Rattle.kd_program.proofs.Reported.{shown_is_plain}
use Rattle.kd_program.proofs.report.put_shown.Goals as goal

pub returns-clause-plain : goal.returns-clause-plain
returns-clause-plain c = shown_is_plain c.args.byte (omega arith)
