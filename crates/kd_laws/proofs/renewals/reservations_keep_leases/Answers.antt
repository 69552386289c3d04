use Rattle.kd_laws.proofs.Renewed.{reservations_kept}
use Rattle.kd_laws.proofs.renewals.reservations_keep_leases.Goals as goal

pub returns : goal.returns
returns c = λ q s set outcome keeps renews there reserved does. reservations_kept c.ends_decide.ensures q s set outcome keeps renews there reserved does
