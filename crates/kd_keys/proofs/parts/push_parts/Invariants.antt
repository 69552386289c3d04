use Rattle.std.proofs.Common.{◌≡◌, ◌++◌}
use Rattle.kd_keys.specs.Parts.{first_parts}
use Rattle.kd_keys.proofs.parts.push_parts.Given as goal

abbrev pub invariant-loop-i : goal.invariant-loop-i
invariant-loop-i l = l.out.items ≡ l.fn.out.items ++ first_parts l.pool l.i
