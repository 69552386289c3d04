use Rattle.kd_laws.proofs.Renewed.{circuits_kept}
use Rattle.kd_laws.proofs.renewals.circuits_keep_leases.Goals as goal

pub returns : goal.returns
returns c = λ q s set outcome keeps renews there reserved does. circuits_kept c.ends_decide.ensures q s set outcome keeps renews there reserved does
