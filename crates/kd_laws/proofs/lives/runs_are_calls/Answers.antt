use Rattle.kd_laws.proofs.Reported.{runs}
use Rattle.kd_laws.proofs.lives.runs_are_calls.Goals as goal

pub returns : goal.returns
returns c start = λ events list fault old new run. runs c.S.Keeps events list fault old new run
