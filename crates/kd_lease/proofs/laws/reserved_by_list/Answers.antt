use Rattle.kd_lease.proofs.Reserved.{by_list}
use Rattle.kd_lease.proofs.laws.reserved_by_list.Goals as goal

pub returns : goal.returns
returns c = λ config names m s a plain none. by_list config names m s a plain none
