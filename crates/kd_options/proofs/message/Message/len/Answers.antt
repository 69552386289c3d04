use Rattle.kd_options.proofs.Sizes.{len_short}
use Rattle.kd_options.proofs.message.Message.len.Goals as goal

pub returns-clause-room : goal.returns-clause-room
returns-clause-room c = len_short _ c.self.invariant
