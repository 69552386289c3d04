use Rattle.kd_laws.proofs.Recorded.{repeats_one}
use Rattle.kd_laws.proofs.replays.replay_repeats_session.Goals as goal

pub returns : goal.returns
returns g c = λ session old new its last text out s alike d. repeats_one c.one_step.ensures g.T.Keeps g.S.Keeps session old new its last text out s alike d
