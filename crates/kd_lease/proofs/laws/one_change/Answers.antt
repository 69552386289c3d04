use Rattle.kd_lease.proofs.Single.{one_change}
use Rattle.kd_lease.proofs.laws.one_change.Goals as goal

pub returns : goal.returns
returns c = λ config rows m now new other got its h k. one_change c.one_answer.ensures c.one_membership.ensures config rows m now new other got its h k
