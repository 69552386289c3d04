use Rattle.kd_lease.proofs.Strangers.{by_record}
use Rattle.kd_lease.proofs.laws.known_by_record.Goals as goal

pub returns : goal.returns
returns c = λ q about none. by_record q about none
