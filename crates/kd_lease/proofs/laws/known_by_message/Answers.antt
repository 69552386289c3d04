use Rattle.kd_lease.proofs.Strangers.{by_message}
use Rattle.kd_lease.proofs.laws.known_by_message.Goals as goal

pub returns : goal.returns
returns c = λ config m none. by_message config m none
