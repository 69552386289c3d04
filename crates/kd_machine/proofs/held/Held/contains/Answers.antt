use Rattle.std.proofs.Common.{sym, ◌∙◌}
use Rattle.kd_machine.specs.Parts.{same}
use Rattle.kd_machine.proofs.Names.{any_image}
use Rattle.kd_machine.proofs.held.Held.contains.Goals as goal

pub returns : goal.returns
returns c = rw (sym c.self.view_is) (c.contains.ensures ∙ sym (any_image (λ v. v.items) (same c.args.name.now) c.self.inside.names.keys))
