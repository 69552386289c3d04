use Rattle.std.proofs.Common.{◌≡◌, ◌<◌, ap, arith, length, subst}
use Rattle.std.proofs.lemmas.List.{length-map}
use Rattle.kd_rows.specs.Index.{Ordered, row_in}
use Rattle.kd_rows.proofs.Fronts.{read_address}
use Rattle.kd_rows.proofs.sorted.Sorted.address.Goals as goal

pub returns : goal.returns
returns c =
    let inside : c.args.place < length c.self.inside.by_address.numbers = omega (arith, c.requires, ap (λ (t : Ordered). length t.rows) c.self.view_is, length-map c.self.inside.by_address.numbers (row_in c.self.inside.slots.items)) in
    subst (λ (t : Ordered). c.index.result.now ≡ (row_in t.rows c.args.place).address) c.self.view_is
    (read_address c.self.inside.slots.items c.self.inside.addresses.items c.self.inside.by_address.numbers c.args.place c.at.result c.index.result.now c.self.invariant.addressed c.self.invariant.sorted inside c.at.ensures c.index.ensures)
