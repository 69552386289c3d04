use Rattle.std.proofs.Common.{◌≡◌, ℕ, ◌+◌, ◌<◌, false, get_or}
use Rattle.kd_config.specs.Apart.{share_one}
use Rattle.kd_config.specs.declared.range.Range.{Range}
use Rattle.kd_json.proofs.rules.apart.are_steps_apart.Given as goal

abbrev pub invariant-loop-i : goal.invariant-loop-i
invariant-loop-i l = (k : ℕ) (d : Range) → k + 1 < l.i → share_one (get_or l.ranges k d) (get_or l.ranges (k + 1) d) ≡ false
