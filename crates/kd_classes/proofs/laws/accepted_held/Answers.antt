use Rattle.kd_classes.proofs.AcceptedHeld.{accepted_held}
use Rattle.kd_classes.proofs.laws.accepted_held.Goals as goal

pub returns : goal.returns
returns c = accepted_held c.accepted_ends.ensures
