use Rattle.kd_token.proofs.Alone.{one_fault}
use Rattle.kd_token.proofs.laws.one_first_fault.Goals as goal

pub returns : goal.returns
returns c = one_fault
