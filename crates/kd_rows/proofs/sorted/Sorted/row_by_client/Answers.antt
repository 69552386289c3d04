use Rattle.std.proofs.Common.{◌≡◌, ◌<◌, Some, ap, arith, length, subst}
use Rattle.std.proofs.lemmas.List.{length-map}
use Rattle.kd_rows.specs.Index.{Ordered, row_in}
use Rattle.kd_rows.specs.Table.{row_at}
use Rattle.kd_rows.proofs.Slots.{read_indexed}
use Rattle.kd_rows.proofs.sorted.Sorted.row_by_client.Goals as goal

pub returns-clause-found : goal.returns-clause-found
returns-clause-found c =
    let inside : c.args.i < length c.self.inside.by_client.numbers = omega (arith, c.requires, ap (λ (t : Ordered). length t.index) c.self.view_is, length-map c.self.inside.by_client.numbers (λ n. (row_in c.self.inside.slots.items n).address)) in
    subst (λ (t : Ordered). row_at t.rows c.index.result.now.address ≡ Some c.index.result.now) c.self.view_is
    (read_indexed c.self.inside.slots.items c.self.inside.by_address.numbers c.self.inside.by_client.numbers c.args.i c.at.result c.index.result.now c.self.invariant.sorted c.self.invariant.within inside c.at.ensures c.index.ensures).1
