use Rattle.std.proofs.Common.{◌≡◌, ◌++◌, length}
use Rattle.kd_expr.specs.Grammar.{hex_pairs}
use Rattle.kd_expr.proofs.literal.push_pairs.Given as goal

abbrev pub invariant-loop-rest : goal.invariant-loop-rest
invariant-loop-rest l = l.bytes.items ++ hex_pairs l.rest ≡ l.fn.bytes.items ++ hex_pairs l.fn.digits

abbrev pub decreases-loop-rest : goal.decreases-loop-rest
decreases-loop-rest l = length l.rest
