use Rattle.kd_laws.proofs.OneStep.{one_step}
use Rattle.kd_laws.proofs.replays.one_step.Goals as goal

pub returns : goal.returns
returns c = λ config ports rows event handled other new its h k. one_step c.one_change.ensures config ports rows event handled other new its h k
