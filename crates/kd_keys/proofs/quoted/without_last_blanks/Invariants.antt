use Rattle.std.proofs.Common.{◌≡◌, length, reverse}
use Rattle.kd_keys.specs.Quoted.{behind_blanks}
use Rattle.kd_keys.proofs.quoted.without_last_blanks.Given as goal

abbrev pub invariant-loop-left : goal.invariant-loop-left
invariant-loop-left l = reverse (behind_blanks (reverse l.left)) ≡ reverse (behind_blanks (reverse l.text))

abbrev pub decreases-loop-left : goal.decreases-loop-left
decreases-loop-left l = length l.left
