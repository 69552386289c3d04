use Rattle.kd_token.proofs.Stands.{tokens_stand}
use Rattle.kd_token.proofs.laws.tokens_stand.Goals as goal

pub returns : goal.returns
returns c = tokens_stand
