use Rattle.kd_lease.proofs.Single.{classes_by_tests}
use Rattle.kd_lease.proofs.laws.classes_by_tests.Goals as goal

pub returns : goal.returns
returns c = classes_by_tests
