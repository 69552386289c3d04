use Rattle.std.proofs.Common.{◌≡◌, ◌≤◌, length}
use Rattle.kd_check.specs.Place.{after_string}
use Rattle.kd_check.proofs.place.skip_string.Given as goal

abbrev pub invariant-loop-rest : goal.invariant-loop-rest
invariant-loop-rest l = record {
  within : length l.rest ≤ length l.text;
  same : after_string l.rest ≡ after_string l.text;
}

abbrev pub decreases-loop-rest : goal.decreases-loop-rest
decreases-loop-rest l = length l.rest
