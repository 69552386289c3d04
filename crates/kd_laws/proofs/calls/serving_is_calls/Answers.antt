use Rattle.kd_laws.proofs.CallsMade.{serving}
use Rattle.kd_laws.proofs.calls.serving_is_calls.Goals as goal

pub returns : goal.returns
returns c start = λ limit result count old new before after s. serving c.S.Keeps limit result count old new before after s
