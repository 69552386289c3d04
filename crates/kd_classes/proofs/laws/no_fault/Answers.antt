use Rattle.kd_classes.proofs.OneFault.{no_fault}
use Rattle.kd_classes.proofs.laws.no_fault.Goals as goal

pub returns : goal.returns
returns c = no_fault
