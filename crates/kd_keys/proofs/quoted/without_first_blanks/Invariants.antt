use Rattle.std.proofs.Common.{◌≡◌, length}
use Rattle.kd_keys.specs.Quoted.{behind_blanks}
use Rattle.kd_keys.proofs.quoted.without_first_blanks.Given as goal

abbrev pub invariant-loop-left : goal.invariant-loop-left
invariant-loop-left l = behind_blanks l.left ≡ behind_blanks l.text

abbrev pub decreases-loop-left : goal.decreases-loop-left
decreases-loop-left l = length l.left
