use Rattle.kd_laws.proofs.Recorded.{stops_on_the_way}
use Rattle.kd_laws.proofs.replays.replay_stops_on_the_way.Goals as goal

pub returns : goal.returns
returns g c = λ config ports rows last sessions failed fault its new text out follow at s. stops_on_the_way c.one_step.ensures g.T.Keeps config ports rows last sessions failed fault its new text out follow at s
