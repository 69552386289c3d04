use Rattle.kd_lease.proofs.Single.{ends_decide}
use Rattle.kd_lease.proofs.laws.ends_decide.Goals as goal

pub returns : goal.returns
returns c = λ q type about set outcome is found does. ends_decide q type about set outcome is found does
