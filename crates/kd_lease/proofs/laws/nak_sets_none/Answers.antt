use Rattle.kd_lease.specs.Plan.Outcome.{planned}
use Rattle.kd_lease.specs.declared.plan.PlanKind.TheVariants as kinds
use Rattle.kd_lease.proofs.Guards.{guarded}
use Rattle.kd_lease.proofs.laws.nak_sets_none.Goals as goal

pub returns : goal.returns
returns c = λ q type set a content h. (guarded q type set (planned kinds.Nak a content) h).nak tt
