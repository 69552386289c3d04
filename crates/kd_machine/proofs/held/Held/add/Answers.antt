use Rattle.std.proofs.Common.{sym, ap, ◌∙◌}
use Rattle.std.specs.List.{list_any}
use Rattle.kd_machine.specs.Parts.{same}
use Rattle.kd_machine.proofs.Names.{distinct_images, inserted}
use Rattle.kd_machine.proofs.held.Held.add.Goals as goal

pub invariant_of-self : goal.invariant_of-self
invariant_of-self c = distinct_images (λ v. v.items) same c.insert.new.self.keys c.insert.ensures.unique

pub returns-in_ok-insert-clause-added : goal.returns-in_ok-insert-clause-added
returns-in_ok-insert-clause-added c =
    let is = c.in_ok-name.ensures.items in
    rw (sym c.self.view_is) (inserted (λ v. v.items) (λ v w. same v.items w.items) (same c.args.name.now) c.self.inside.names.keys c.insert.new.self.keys c.in_ok-name.name c.args.name.now (λ x. ap (λ n. same n x.items) is) is c.in_ok-insert.ensures.keys (ap (list_any (same c.args.name.now)) c.self.view_is ∙ sym c.if-not-contains.ensures))
