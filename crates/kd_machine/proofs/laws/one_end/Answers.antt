use Rattle.kd_machine.proofs.OneEnd.{one_end}
use Rattle.kd_machine.proofs.laws.one_end.Goals as goal

pub returns : goal.returns
returns c = one_end
