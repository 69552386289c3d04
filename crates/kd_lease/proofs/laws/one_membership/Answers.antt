use Rattle.kd_lease.proofs.Single.{one_membership}
use Rattle.kd_lease.proofs.laws.one_membership.Goals as goal

pub returns : goal.returns
returns c = one_membership c.one_join.ensures
