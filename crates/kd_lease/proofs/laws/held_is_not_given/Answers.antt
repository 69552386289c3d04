use Rattle.std.proofs.Common.{refl, ⊎_elim}
use Rattle.kd_lease.specs.Plan.Outcome.{planned}
use Rattle.kd_lease.specs.declared.plan.PlanKind.TheVariants as kinds
use Rattle.kd_lease.proofs.Guards.{guarded}
use Rattle.kd_lease.proofs.laws.held_is_not_given.Goals as goal

pub returns : goal.returns
returns c = λ q type set a content row held.
    ⊎_elim (λ h. (guarded q type set (planned kinds.Offer a content) h).fair a row held refl) (λ h. (guarded q type set (planned kinds.Ack a content) h).fair a row held refl)
