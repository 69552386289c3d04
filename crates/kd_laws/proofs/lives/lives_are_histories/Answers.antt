use Rattle.kd_laws.proofs.Reported.{histories}
use Rattle.kd_laws.proofs.lives.lives_are_histories.Goals as goal

pub returns : goal.returns
returns c = λ life is. histories life is
