use Rattle.std.proofs.Common.{◌<◌, ap, arith, get_or, length, ◌∙◌}
use Rattle.std.specs.List.{insert, remove}
use Rattle.std.proofs.lemmas.List.{length-map}
use Rattle.kd_rows.specs.Index.{Ordered, row_in}
use Rattle.kd_rows.proofs.Slots.{index_moved, within_moved}
use Rattle.kd_rows.proofs.sorted.Sorted.move_age.Goals as goal

pub invariant_of-self : goal.invariant_of-self
invariant_of-self c =
    let inside : c.args.from < length c.self.inside.by_age.numbers = omega (arith, c.requires.from, ap (λ (t : Ordered). length t.ages) c.self.view_is, length-map c.self.inside.by_age.numbers (λ n. (row_in c.self.inside.slots.items n).address)) in
    record {
      addressed = c.self.invariant.addressed;
      headed = c.self.invariant.headed;
      sorted = c.self.invariant.sorted;
      within = c.self.invariant.within;
      aged = within_moved c.self.inside.slots.items c.self.inside.by_age.numbers c.take_at-number.new.self.numbers c.put_at.new.self.numbers c.args.from c.args.to c.take_at-number.result c.self.invariant.aged inside c.take_at-number.ensures.value c.take_at-number.ensures.numbers c.put_at.ensures.numbers;
    }

pub returns-clause-ages : goal.returns-clause-ages
returns-clause-ages c =
    let inside : c.args.from < length c.self.inside.by_age.numbers = omega (arith, c.requires.from, ap (λ (t : Ordered). length t.ages) c.self.view_is, length-map c.self.inside.by_age.numbers (λ n. (row_in c.self.inside.slots.items n).address)) in
    index_moved c.self.inside.slots.items c.self.inside.by_age.numbers c.take_at-number.new.self.numbers c.put_at.new.self.numbers c.args.from c.args.to c.take_at-number.result inside c.take_at-number.ensures.value c.take_at-number.ensures.numbers c.put_at.ensures.numbers
    ∙ ap (λ (t : Ordered). insert (remove t.ages c.args.from) c.args.to (get_or t.ages c.args.from 0)) c.self.view_is
