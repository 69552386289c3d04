use Rattle.std.proofs.Common.{◌∙◌, ap, sym}
use Rattle.kd_lease.specs.Valuing.{marked}
use Rattle.kd_lease.proofs.Valuing.{mark_none, mark_set}
use Rattle.kd_lease.proofs.values.Values.mark.Goals as goal

pub returns-then-always : goal.returns-then-always
returns-then-always c =
    let list = c.args.self.now.list.items in
    mark_set c.args.place list c.index_mut.result.now c.requires c.index_mut.ensures.value ∙ ap (λ always. marked always c.args.place list) (sym c.if-always.true)

pub returns-else-always : goal.returns-else-always
returns-else-always c =
    let list = c.args.self.now.list.items in
    mark_none c.args.place list ∙ ap (λ always. marked always c.args.place list) (sym c.if-always.false)
