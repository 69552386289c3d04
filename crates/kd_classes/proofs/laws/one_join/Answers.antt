use Rattle.kd_classes.proofs.OneHeld.{one_join}
use Rattle.kd_classes.proofs.laws.one_join.Goals as goal

pub returns : goal.returns
returns c = one_join c.one_end.ensures
