use Rattle.kd_lease.proofs.Places.{served_alone}
use Rattle.kd_lease.proofs.laws.serves_alone.Goals as goal

pub returns : goal.returns
returns c = λ config names m none. served_alone config names m none
