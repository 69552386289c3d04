use Rattle.kd_lease.proofs.Places.{served_by_prefix}
use Rattle.kd_lease.proofs.laws.serves_by_prefix.Goals as goal

pub returns : goal.returns
returns c = λ config names m none. served_by_prefix config names m none
