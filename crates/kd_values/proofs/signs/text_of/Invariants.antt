use Rattle.std.proofs.Common.{◌≡◌, ◌++◌, length, option_map}
use Rattle.kd_values.specs.Signs.{signs_read}
use Rattle.kd_values.proofs.signs.text_of.Given as goal

abbrev pub invariant-loop-left : goal.invariant-loop-left
invariant-loop-left l = option_map (λ v. l.signs.items ++ v) (signs_read l.left) ≡ signs_read l.text

abbrev pub decreases-loop-left : goal.decreases-loop-left
decreases-loop-left l = length l.left
