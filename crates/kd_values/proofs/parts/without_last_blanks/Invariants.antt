use Rattle.std.proofs.Common.{◌≡◌, length, reverse}
use Rattle.kd_expr.specs.Lexical.{a_blank}
use Rattle.kd_expr.specs.Lexing.{behind_of}
use Rattle.kd_values.proofs.parts.without_last_blanks.Given as goal

abbrev pub invariant-loop-left : goal.invariant-loop-left
invariant-loop-left l = reverse (behind_of a_blank (reverse l.left)) ≡ reverse (behind_of a_blank (reverse l.text))

abbrev pub decreases-loop-left : goal.decreases-loop-left
decreases-loop-left l = length l.left
