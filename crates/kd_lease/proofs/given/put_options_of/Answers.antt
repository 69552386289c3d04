use Rattle.std.proofs.Common.{◌≡◌, ◌++◌, ap, sym, ◌∙◌, subst, true}
use Rattle.kd_machine.specs.Parts.{is_held}
use Rattle.kd_lease.specs.Valuing.{HasValues}
use Rattle.kd_lease.proofs.Giving.{one_held}
use Rattle.kd_lease.proofs.given.put_options_of.Goals as goal

pub returns-in_ok-put_all : goal.returns-in_ok-put_all
returns-in_ok-put_all c = λ before h.
    let class = c.args.class.now in
    let names = c.args.names.now in
    let held : is_held class.name names ≡ true = ap (λ name. is_held name names) (sym c.as_slice.ensures) ∙ sym c.if-contains.ensures in
    subst
    (λ options. HasValues c.put_all.new.self.list.items (before ++ options))
    (c.as_slice-then-contains.ensures ∙ sym (one_held class names held))
    (c.in_ok-put_all.ensures before h)
