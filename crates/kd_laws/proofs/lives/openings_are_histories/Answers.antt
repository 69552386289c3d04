use Rattle.kd_laws.proofs.Reported.{openings}
use Rattle.kd_laws.proofs.lives.openings_are_histories.Goals as goal

pub returns : goal.returns
returns c start = λ o next is. openings c.S.Keeps o next is
