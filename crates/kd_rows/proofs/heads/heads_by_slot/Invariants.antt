use Rattle.std.proofs.Common.{take}
use Rattle.kd_rows.specs.Heads.{AreHeads}
use Rattle.kd_rows.proofs.heads.heads_by_slot.Given as goal

abbrev pub invariant-loop-i : goal.invariant-loop-i
invariant-loop-i l = AreHeads (take l.i l.rows.items) l.heads.items
