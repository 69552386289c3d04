use Rattle.std.proofs.Common.{List, ℕ, ap, subst, ◌∙◌}
use Rattle.kd_rows.specs.Heads.{IsHead}
use Rattle.kd_rows.specs.Index.{Ordered}
use Rattle.kd_rows.proofs.Fronts.{replaced_stored}
use Rattle.kd_rows.proofs.Slots.{replaced_index, replaced_now}
use Rattle.kd_rows.proofs.sorted.Sorted.replace.Goals as goal

pub invariant_of-self : goal.invariant_of-self
invariant_of-self c =
    replaced_stored c.self.inside.slots.items c.args.self.now.rows c.self.inside.addresses.items c.self.inside.heads.items c.self.inside.by_address.numbers c.self.inside.by_client.numbers c.self.inside.by_age.numbers c.args.place c.at-number.result c.head_of.result c.args.row c.self.invariant (ap (λ (t : Ordered). t.rows) c.self.view_is) c.at-number.ensures c.requires
    (subst (λ (client : List ℕ). IsHead client c.head_of.result) c.as_slice.ensures c.head_of.ensures)

pub returns-clause-rows : goal.returns-clause-rows
returns-clause-rows c =
    (replaced_now c.self.inside.slots.items c.args.self.now.rows c.self.inside.by_address.numbers c.args.place c.at-number.result c.args.row c.self.invariant.sorted (ap (λ (t : Ordered). t.rows) c.self.view_is) c.at-number.ensures c.requires).1

pub returns-clause-index : goal.returns-clause-index
returns-clause-index c =
    replaced_index c.self.inside.slots.items c.args.self.now.rows c.self.inside.by_address.numbers c.self.inside.by_client.numbers c.args.place c.at-number.result c.args.row c.self.invariant.sorted (ap (λ (t : Ordered). t.rows) c.self.view_is) c.at-number.ensures c.requires
    ∙ ap (λ (t : Ordered). t.index) c.self.view_is

pub returns-clause-ages : goal.returns-clause-ages
returns-clause-ages c =
    replaced_index c.self.inside.slots.items c.args.self.now.rows c.self.inside.by_address.numbers c.self.inside.by_age.numbers c.args.place c.at-number.result c.args.row c.self.invariant.sorted (ap (λ (t : Ordered). t.rows) c.self.view_is) c.at-number.ensures c.requires
    ∙ ap (λ (t : Ordered). t.ages) c.self.view_is
