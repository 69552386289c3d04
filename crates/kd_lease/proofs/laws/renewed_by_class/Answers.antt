use Rattle.kd_lease.proofs.Places.{renewed_by_class}
use Rattle.kd_lease.proofs.laws.renewed_by_class.Goals as goal

pub returns : goal.returns
returns c = λ q none. renewed_by_class q none
