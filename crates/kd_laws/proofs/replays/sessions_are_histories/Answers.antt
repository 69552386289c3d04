use Rattle.kd_laws.proofs.Recorded.{was_session}
use Rattle.kd_laws.proofs.replays.sessions_are_histories.Goals as goal

pub returns : goal.returns
returns c start = λ session old new s. was_session c.S.Keeps session old new s
