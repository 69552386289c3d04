use Rattle.kd_machine.proofs.Ending.{accepted_ends}
use Rattle.kd_machine.proofs.laws.accepted_ends.Goals as goal

pub returns : goal.returns
returns c = accepted_ends c.tokens_stand.ensures c.messages_have_sizes.ensures
