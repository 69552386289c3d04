use Rattle.std.specs.VecDeque.{deque_capacity, deque_items}
use Rattle.kd_rows.proofs.Tiers.{IsDrawn}
use Rattle.kd_rows.proofs.tiered.take_among.Given as goal

abbrev pub invariant-loop-next : goal.invariant-loop-next
invariant-loop-next l = IsDrawn deque_items deque_capacity l.fn.tiers.items l.tiers.items l.place l.next
