use Rattle.kd_config.proofs.AcceptedTests.{all_accepted}
use Rattle.kd_config.proofs.laws.tests_are_accepted.Goals as goal

pub returns : goal.returns
returns c = all_accepted
