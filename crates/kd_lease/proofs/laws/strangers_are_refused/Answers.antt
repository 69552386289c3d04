use Rattle.kd_lease.proofs.Strangers.{strangers_refused}
use Rattle.kd_lease.proofs.laws.strangers_are_refused.Goals as goal

pub returns : goal.returns
returns c = λ q a authority named served other. strangers_refused q a authority named served other
