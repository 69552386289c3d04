use Rattle.kd_log.proofs.Logs.{served_logs_are_read}
use Rattle.kd_log.proofs.laws.served_logs_are_read.Goals as goal

pub returns : goal.returns
returns c = served_logs_are_read
