use Rattle.std.proofs.Common.{◌≡◌, ◌-◌, ◌<◌, ◌≤◌, true, false, length, take}
use Rattle.kd_config.specs.Apart.{lie_apart}
use Rattle.kd_json.proofs.rules.pools.first_overlap.Given as goal

abbrev pub invariant-loop-not_apart : goal.invariant-loop-not_apart
invariant-loop-not_apart l = record {
  below : l.apart < l.not_apart;
  within : l.not_apart ≤ length l.ranges;
  before : lie_apart (take l.apart l.ranges) ≡ true;
  behind : lie_apart (take l.not_apart l.ranges) ≡ false;
}

abbrev pub decreases-loop-not_apart : goal.decreases-loop-not_apart
decreases-loop-not_apart l = l.not_apart - l.apart
