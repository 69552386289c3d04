use Rattle.kd_explain.proofs.Made.{explained}
use Rattle.kd_explain.proofs.laws.explained.Goals as goal

pub returns : goal.returns
returns c = λ q set got text told answers. explained c.ends_decide.ensures q set got text told answers
