use Rattle.kd_machine.specs.Parts.{same}
use Rattle.kd_machine.proofs.Names.{distinct_images}
use Rattle.kd_machine.proofs.held.Held.base.Goals as goal

pub invariant_of-held : goal.invariant_of-held
invariant_of-held c = distinct_images (λ v. v.items) same c.new.result.keys c.new.ensures.unique
