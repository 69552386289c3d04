use Rattle.std.proofs.Common.{◌≡◌, take}
use Rattle.test_tables.proofs.fused.all_of.Given as goal

abbrev pub invariant-loop-i : goal.invariant-loop-i
invariant-loop-i l = l.list.items ≡ take l.i l.rows.rows
