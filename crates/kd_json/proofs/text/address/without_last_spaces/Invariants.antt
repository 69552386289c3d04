use Rattle.std.proofs.Common.{◌≡◌, length}
use Rattle.kd_json.specs.Address.{before_spaces}
use Rattle.kd_json.proofs.text.address.without_last_spaces.Given as goal

abbrev pub invariant-loop-left : goal.invariant-loop-left
invariant-loop-left l = before_spaces l.left ≡ before_spaces l.text

abbrev pub decreases-loop-left : goal.decreases-loop-left
decreases-loop-left l = length l.left
