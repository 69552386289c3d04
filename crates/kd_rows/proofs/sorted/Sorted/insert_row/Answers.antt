use Rattle.std.proofs.Common.{◌≡◌, List, [], ◌∷◌, ◌++◌, ℕ, ap, arith, length, subst, sym, ◌∙◌}
use Rattle.std.specs.List.{insert}
use Rattle.kd_rows.specs.declared.row.Row.{Row}
use Rattle.kd_rows.specs.Heads.{AreHeads, IsHead, row_addresses}
use Rattle.kd_rows.specs.Index.{Ordered}
use Rattle.kd_rows.proofs.Fronts.{addresses_more, heads_more}
use Rattle.kd_rows.proofs.Slots.{index_more, inserted_now, number_fits, within_more}
use Rattle.kd_rows.proofs.sorted.Sorted.insert_row.Goals as goal

pub number_of-number-requires : goal.number_of-number-requires
number_of-number-requires c = λ low.
    let fits = number_fits c.self.inside.slots.items c.args.self.now.rows c.self.inside.by_address.numbers c.place_of-place.result c.args.row c.self.invariant.sorted (ap (λ (t : Ordered). t.rows) c.self.view_is) c.place_of-place.ensures c.requires.none low in
    omega (arith, fits, c.len.ensures, c.self.inside.slots.ok.0)

pub invariant_of-self : goal.invariant_of-self
invariant_of-self c =
    let is : c.number_of-number.result ≡ length c.self.inside.slots.items = omega (arith, c.number_of-number.ensures.number, c.len.ensures, c.self.inside.slots.ok.0) in
    record {
      addressed = c.push_reserved.ensures.items ∙ addresses_more c.self.inside.slots.items c.self.inside.addresses.items c.args.row c.self.invariant.addressed ∙ ap row_addresses (sym c.push_reserved-3.ensures.items);
      headed = subst (λ (heads : List ℕ). AreHeads c.push_reserved-3.new.self.items heads) (sym c.push_reserved-2.ensures.items)
          (subst (λ (slots : List Row). AreHeads slots (c.self.inside.heads.items ++ c.head_of.result ∷ [])) (sym c.push_reserved-3.ensures.items)
          (heads_more c.self.inside.slots.items c.self.inside.heads.items c.args.row c.head_of.result c.self.invariant.headed (subst (λ (client : List ℕ). IsHead client c.head_of.result) c.as_slice.ensures c.head_of.ensures)));
      sorted = (inserted_now c.self.inside.slots.items c.args.self.now.rows c.push_reserved-3.new.self.items c.self.inside.by_address.numbers c.put_at.new.self.numbers c.place_of-place.result c.number_of-number.result c.args.row c.number_of-number.ensures.bound c.self.invariant.sorted (ap (λ (t : Ordered). t.rows) c.self.view_is) c.place_of-place.ensures c.requires.none is c.push_reserved-3.ensures.items c.put_at.ensures.numbers).0;
      within = within_more c.self.inside.slots.items c.push_reserved-3.new.self.items c.self.inside.by_client.numbers c.put_at-2.new.self.numbers c.args.key c.number_of-number.result c.args.row c.self.invariant.within is c.push_reserved-3.ensures.items c.put_at-2.ensures.numbers;
      aged = within_more c.self.inside.slots.items c.push_reserved-3.new.self.items c.self.inside.by_age.numbers c.put_at-3.new.self.numbers c.args.age c.number_of-number.result c.args.row c.self.invariant.aged is c.push_reserved-3.ensures.items c.put_at-3.ensures.numbers;
    }

pub returns-clause-rows : goal.returns-clause-rows
returns-clause-rows c =
    let is : c.number_of-number.result ≡ length c.self.inside.slots.items = omega (arith, c.number_of-number.ensures.number, c.len.ensures, c.self.inside.slots.ok.0) in
    (inserted_now c.self.inside.slots.items c.args.self.now.rows c.push_reserved-3.new.self.items c.self.inside.by_address.numbers c.put_at.new.self.numbers c.place_of-place.result c.number_of-number.result c.args.row c.number_of-number.ensures.bound c.self.invariant.sorted (ap (λ (t : Ordered). t.rows) c.self.view_is) c.place_of-place.ensures c.requires.none is c.push_reserved-3.ensures.items c.put_at.ensures.numbers).1

pub returns-clause-index : goal.returns-clause-index
returns-clause-index c =
    let is : c.number_of-number.result ≡ length c.self.inside.slots.items = omega (arith, c.number_of-number.ensures.number, c.len.ensures, c.self.inside.slots.ok.0) in
    index_more c.self.inside.slots.items c.push_reserved-3.new.self.items c.self.inside.by_client.numbers c.put_at-2.new.self.numbers c.args.key c.number_of-number.result c.args.row c.self.invariant.within is c.push_reserved-3.ensures.items c.put_at-2.ensures.numbers
    ∙ ap (λ (t : Ordered). insert t.index c.args.key c.args.row.address) c.self.view_is

pub returns-clause-ages : goal.returns-clause-ages
returns-clause-ages c =
    let is : c.number_of-number.result ≡ length c.self.inside.slots.items = omega (arith, c.number_of-number.ensures.number, c.len.ensures, c.self.inside.slots.ok.0) in
    index_more c.self.inside.slots.items c.push_reserved-3.new.self.items c.self.inside.by_age.numbers c.put_at-3.new.self.numbers c.args.age c.number_of-number.result c.args.row c.self.invariant.aged is c.push_reserved-3.ensures.items c.put_at-3.ensures.numbers
    ∙ ap (λ (t : Ordered). insert t.ages c.args.age c.args.row.address) c.self.view_is
