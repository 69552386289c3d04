use Rattle.std.proofs.Common.{◌≡◌, ap, arith, length, map}
use Rattle.std.proofs.lemmas.List.{length-map}
use Rattle.kd_rows.specs.Index.{Bounds, bound_row}
use Rattle.kd_rows.proofs.Slots.{inserted_seen, number_fits}
use Rattle.kd_rows.proofs.blocks.Blocks.insert_bound.Goals as goal

pub number_of-number-requires : goal.number_of-number-requires
number_of-number-requires c = λ low.
    let fits = number_fits (map bound_row c.self.inside.slots.items) c.args.self.now.rows c.self.inside.order.numbers c.args.place (bound_row c.args.bound) c.self.invariant (ap (λ (t : Bounds). t.rows) c.self.view_is) c.requires.place c.requires.none low in
    omega (arith, fits, c.len.ensures, c.self.inside.slots.ok.0, length-map c.self.inside.slots.items bound_row)

pub invariant_of-self : goal.invariant_of-self
invariant_of-self c =
    let is : c.number_of-number.result ≡ length c.self.inside.slots.items = omega (arith, c.number_of-number.ensures.number, c.len.ensures, c.self.inside.slots.ok.0) in
    (inserted_seen bound_row c.self.inside.slots.items c.push_reserved.new.self.items c.args.self.now.rows c.self.inside.order.numbers c.put_at.new.self.numbers c.args.place c.number_of-number.result c.args.bound c.number_of-number.ensures.bound c.self.invariant (ap (λ (t : Bounds). t.rows) c.self.view_is) c.requires.place c.requires.none is c.push_reserved.ensures.items c.put_at.ensures.numbers).0

pub returns-clause-rows : goal.returns-clause-rows
returns-clause-rows c =
    let is : c.number_of-number.result ≡ length c.self.inside.slots.items = omega (arith, c.number_of-number.ensures.number, c.len.ensures, c.self.inside.slots.ok.0) in
    (inserted_seen bound_row c.self.inside.slots.items c.push_reserved.new.self.items c.args.self.now.rows c.self.inside.order.numbers c.put_at.new.self.numbers c.args.place c.number_of-number.result c.args.bound c.number_of-number.ensures.bound c.self.invariant (ap (λ (t : Bounds). t.rows) c.self.view_is) c.requires.place c.requires.none is c.push_reserved.ensures.items c.put_at.ensures.numbers).1
