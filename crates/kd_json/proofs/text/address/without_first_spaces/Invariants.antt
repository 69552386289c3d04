use Rattle.std.proofs.Common.{◌≡◌, length}
use Rattle.kd_json.specs.Address.{after_spaces}
use Rattle.kd_json.proofs.text.address.without_first_spaces.Given as goal

abbrev pub invariant-loop-left : goal.invariant-loop-left
invariant-loop-left l = after_spaces l.left ≡ after_spaces l.text

abbrev pub decreases-loop-left : goal.decreases-loop-left
decreases-loop-left l = length l.left
