use Rattle.kd_lease.proofs.Strangers.{known_by_address}
use Rattle.kd_lease.proofs.laws.known_by_address.Goals as goal

pub returns : goal.returns
returns c = known_by_address
