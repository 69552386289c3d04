use Rattle.std.proofs.Common.{subst}
use Rattle.std.specs.Option.{option_to_list}
use Rattle.std.specs.VecDeque.{deque_capacity, deque_items}
use Rattle.kd_rows.proofs.Tiers.{IsCarried, at_most_one, carried_all, carried_first}
use Rattle.kd_rows.proofs.tiered.put_among.Goals as goal

pub loop-over-init : goal.loop-over-init
loop-over-init c =
    carried_first deque_items deque_capacity c.args.tiers.now.items c.args.place c.args.number c.index_mut.result.now c.put-over.new.tier (option_to_list c.put-over.result) c.requires.tiers c.requires.place c.requires.room c.index_mut.ensures.value
    c.put-over.ensures.items c.put-over.ensures.len c.put-over.ensures.full c.put-over.ensures.over (at_most_one c.put-over.result) c.put-over.ensures.room

pub returns-clause-tiers : goal.returns-clause-tiers
returns-clause-tiers c =
    (carried_all deque_items deque_capacity c.args.tiers.now.items c.loop-over.tiers.items c.args.place c.args.number c.loop-over.tier c.requires.place
    (subst (λ over. IsCarried deque_items deque_capacity c.args.tiers.now.items c.loop-over.tiers.items c.args.place c.args.number c.loop-over.tier (option_to_list over)) c.in_default.is c.loop-over.invariant)).0

pub returns-clause-numbers : goal.returns-clause-numbers
returns-clause-numbers c =
    (carried_all deque_items deque_capacity c.args.tiers.now.items c.loop-over.tiers.items c.args.place c.args.number c.loop-over.tier c.requires.place
    (subst (λ over. IsCarried deque_items deque_capacity c.args.tiers.now.items c.loop-over.tiers.items c.args.place c.args.number c.loop-over.tier (option_to_list over)) c.in_default.is c.loop-over.invariant)).1
