use Rattle.kd_classes.proofs.OneFault.{one_fault}
use Rattle.kd_classes.proofs.laws.one_fault.Goals as goal

pub returns : goal.returns
returns c = one_fault
