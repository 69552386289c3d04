use Rattle.kd_log.proofs.Logs.{logs_are_read}
use Rattle.kd_log.proofs.laws.logs_are_read.Goals as goal

pub returns : goal.returns
returns c = logs_are_read
