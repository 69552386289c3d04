use Rattle.kd_laws.proofs.CallsMade.{replays}
use Rattle.kd_laws.proofs.calls.replaying_is_calls.Goals as goal

pub returns : goal.returns
returns c start = λ failed result old new input left before after r. replays c.S.Keeps failed result old new input left before after r
