use Rattle.kd_laws.proofs.OneStep.{one_history}
use Rattle.kd_laws.proofs.replays.one_history.Goals as goal

pub returns : goal.returns
returns g c = λ events list others old new its last alike a b. one_history c.one_step.ensures g.S.Keeps g.T.Keeps events list others old new its last alike a b
