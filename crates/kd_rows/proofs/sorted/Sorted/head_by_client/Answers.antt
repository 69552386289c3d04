use Rattle.std.proofs.Common.{◌<◌, ap, arith, get_or, length, subst}
use Rattle.std.proofs.lemmas.List.{length-map}
use Rattle.kd_rows.specs.Heads.{IsHeadAt}
use Rattle.kd_rows.specs.Index.{Ordered, row_in}
use Rattle.kd_rows.proofs.Fronts.{read_head}
use Rattle.kd_rows.proofs.sorted.Sorted.head_by_client.Goals as goal

pub returns : goal.returns
returns c =
    let inside : c.args.i < length c.self.inside.by_client.numbers = omega (arith, c.requires, ap (λ (t : Ordered). length t.index) c.self.view_is, length-map c.self.inside.by_client.numbers (λ n. (row_in c.self.inside.slots.items n).address)) in
    subst (λ (t : Ordered). IsHeadAt t.rows (get_or t.index c.args.i 0) c.index.result.now) c.self.view_is
    (read_head c.self.inside.slots.items c.self.inside.heads.items c.self.inside.by_address.numbers c.self.inside.by_client.numbers c.args.i c.at.result c.index.result.now c.self.invariant.headed c.self.invariant.sorted c.self.invariant.within inside c.at.ensures c.index.ensures)
