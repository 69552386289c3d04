use Rattle.kd_laws.proofs.Renewed.{renewals_kept}
use Rattle.kd_laws.proofs.renewals.renewals_are_kept.Goals as goal

pub returns : goal.returns
returns c = λ q set outcome keeps renews pooled free does. renewals_kept c.ends_decide.ensures q set outcome keeps renews pooled free does
