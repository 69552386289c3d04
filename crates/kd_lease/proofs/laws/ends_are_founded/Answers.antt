use Rattle.kd_lease.proofs.Founded.{founded}
use Rattle.kd_lease.proofs.laws.ends_are_founded.Goals as goal

pub returns : goal.returns
returns c = λ q type about is. founded q type about is
