use Rattle.kd_lease.proofs.Places.{standing_alone}
use Rattle.kd_lease.proofs.laws.stands_alone.Goals as goal

pub returns : goal.returns
returns c = λ subnets s a none. standing_alone subnets s a none
