use Rattle.kd_log.proofs.Reread.{printed_is_read}
use Rattle.kd_log.proofs.laws.printed_is_read.Goals as goal

pub returns : goal.returns
returns c = printed_is_read
