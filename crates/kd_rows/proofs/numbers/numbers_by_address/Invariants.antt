use Rattle.kd_rows.proofs.Slots.{AreFirst}
use Rattle.kd_rows.proofs.numbers.numbers_by_address.Given as goal

abbrev pub invariant-loop-i : goal.invariant-loop-i
invariant-loop-i l = AreFirst l.rows.items l.i l.numbers.items
