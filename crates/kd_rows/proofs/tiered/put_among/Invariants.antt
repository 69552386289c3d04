use Rattle.std.proofs.Common.{◌-◌, length}
use Rattle.std.specs.Option.{option_to_list}
use Rattle.std.specs.VecDeque.{deque_capacity, deque_items}
use Rattle.kd_rows.proofs.Tiers.{IsCarried}
use Rattle.kd_rows.proofs.tiered.put_among.Given as goal

abbrev pub invariant-loop-over : goal.invariant-loop-over
invariant-loop-over l = IsCarried deque_items deque_capacity l.fn.tiers.items l.tiers.items l.place l.number l.tier (option_to_list l.over)

abbrev pub decreases-loop-over : goal.decreases-loop-over
decreases-loop-over l = length l.tiers.items - l.tier
