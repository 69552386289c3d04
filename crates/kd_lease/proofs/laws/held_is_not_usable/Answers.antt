use Rattle.kd_lease.proofs.Held.{not_renewed, not_usable}
use Rattle.kd_lease.proofs.laws.held_is_not_usable.Goals as goal

pub returns : goal.returns
returns c = λ q s a row held. (not_usable q s a row held, not_renewed q s a row held)
