use Rattle.std.proofs.Common.{ap, arith, length, refl, sym, ◌∙◌}
use Rattle.std.proofs.lemmas.Bool.{eqb-true}
use Rattle.std.specs.VecDeque.{deque_capacity, deque_items}
use Rattle.kd_rows.proofs.Tiers.{drawn_all, drawn_first, drawn_next, flat_most, read_at, within_tier}
use Rattle.kd_rows.proofs.tiered.take_among.Goals as goal

pub index_mut-requires : goal.index_mut-requires
index_mut-requires c =
    let most = flat_most deque_items _ c.args.tiers.now.items c.requires.tiers.full in
    omega (arith, most, c.requires.place, c.args.tiers.now.ok.0)

pub take-number-requires : goal.take-number-requires
take-number-requires c = within_tier deque_items c.args.tiers.now.items c.args.place c.index_mut.result.now c.requires.tiers.full c.requires.place c.index_mut.ensures.value

pub loop-next-init : goal.loop-next-init
loop-next-init c = drawn_first deque_items deque_capacity c.args.tiers.now.items c.args.place c.index_mut.result.now c.take-number.new.tier c.requires.tiers c.requires.place c.index_mut.ensures.value c.take-number.ensures.items c.take-number.ensures.room

pub returns-then-is_empty-clause-value : goal.returns-then-is_empty-clause-value
returns-then-is_empty-clause-value c = read_at deque_items c.args.tiers.now.items _ c.args.place c.index_mut.result.now c.take-number.result c.requires.tiers.full refl c.requires.place c.index_mut.ensures.value c.take-number.ensures.value

pub loop-next-preserved : goal.loop-next-preserved
loop-next-preserved c =
    drawn_next deque_items deque_capacity c.args.tiers.now.items c.loop-next.tiers.items c.args.place c.loop-next.next c.in-Some.first c.index_mut-in-loop-next.result.now c.index_mut-in-Some.result.now c.pop_front.new.self c.push_back_reserved.new.self
    (omega (arith, c.loop-next.auto.next)) c.loop-next.invariant (omega (arith, c.loop-next-test.true, c.len-next-end.ensures, c.args.tiers.now.ok.0, c.loop-next.invariant.count)) c.index_mut-in-loop-next.ensures.value c.in-Some.ensures.items c.pop_front.ensures.capacity
    c.index_mut-in-Some.ensures.value c.push_back_reserved.ensures.items c.push_back_reserved.ensures.capacity

pub returns-clause-tiers : goal.returns-clause-tiers
returns-clause-tiers c =
    let most = flat_most deque_items _ c.args.tiers.now.items c.requires.tiers.full in
    drawn_all deque_items deque_capacity c.args.tiers.now.items c.loop-next.tiers.items c.args.place c.loop-next.next c.requires.place c.loop-next.invariant
    (omega (arith, most, c.loop-next-test.false, c.loop-next.invariant.count, c.loop-next.invariant.inside))

pub returns-clause-value : goal.returns-clause-value
returns-clause-value c = read_at deque_items c.args.tiers.now.items _ c.args.place c.index_mut.result.now c.take-number.result c.requires.tiers.full refl c.requires.place c.index_mut.ensures.value c.take-number.ensures.value

pub returns-then-is_empty-clause-tiers : goal.returns-then-is_empty-clause-tiers
returns-then-is_empty-clause-tiers c =
    let here = c.loop-next.invariant.above c.loop-next.next c.index.result.now (omega arith) (omega (arith, c.loop-next-test.true, c.len-next-end.ensures, c.args.tiers.now.ok.0, c.loop-next.invariant.count)) in
    let none = ap (λ x. length (deque_items x)) c.index.ensures in
    let empty = eqb-true _ 0 (sym c.is_empty.ensures ∙ c.if-is_empty.true) in
    drawn_all deque_items deque_capacity c.args.tiers.now.items c.loop-next.tiers.items c.args.place c.loop-next.next c.requires.place c.loop-next.invariant (omega (arith, here, none, empty, c.index.result.now.ok.0))
