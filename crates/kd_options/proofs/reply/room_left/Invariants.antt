use Rattle.std.proofs.Common.{◌≡◌, ◌+◌, ◌<◌, drop}
use Rattle.std.specs.Prelude.{sum_by}
use Rattle.kd_options.specs.Reply.{obligatory_cost}
use Rattle.kd_options.proofs.reply.room_left.Given as goal

abbrev pub invariant-loop-item : goal.invariant-loop-item
invariant-loop-item l =
    (l.left + 241 + sum_by obligatory_cost l.items ≡ l.fn.room + sum_by obligatory_cost (drop l.item-index l.items))
    × (l.left < 65536)
