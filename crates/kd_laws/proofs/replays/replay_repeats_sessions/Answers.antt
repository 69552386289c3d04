use Rattle.kd_laws.proofs.Recorded.{repeats_all}
use Rattle.kd_laws.proofs.replays.replay_repeats_sessions.Goals as goal

pub returns : goal.returns
returns g c = λ config ports rows last sessions its new text out f at d. repeats_all c.one_step.ensures g.T.Keeps config ports rows last sessions its new text out f at d
