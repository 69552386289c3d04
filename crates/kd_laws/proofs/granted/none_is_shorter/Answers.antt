use Rattle.kd_laws.proofs.Lasting.{none_shorter}
use Rattle.kd_laws.proofs.granted.none_is_shorter.Goals as goal

pub returns : goal.returns
returns c = none_shorter
