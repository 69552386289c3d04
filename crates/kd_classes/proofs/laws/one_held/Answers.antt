use Rattle.kd_classes.proofs.OneHeld.{one_held}
use Rattle.kd_classes.proofs.laws.one_held.Goals as goal

pub returns : goal.returns
returns c = one_held c.one_end.ensures
