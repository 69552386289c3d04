use Rattle.std.proofs.Common.{◌≡◌}
use Rattle.kd_rows.specs.Heads.{front_number}
use Rattle.kd_rows.proofs.heads.head_of.Given as goal

abbrev pub invariant-loop-i : goal.invariant-loop-i
invariant-loop-i l = l.head ≡ front_number l.i l.client
