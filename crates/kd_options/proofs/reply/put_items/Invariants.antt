use Rattle.std.proofs.Common.{length}
use Rattle.kd_options.proofs.Keeping.{Putting}
use Rattle.kd_options.proofs.reply.put_items.Given as goal

abbrev pub invariant-loop-item : goal.invariant-loop-item
invariant-loop-item l = Putting l.items (length l.fn.out) l.fn.out l.item-index l.at l.left l.out
