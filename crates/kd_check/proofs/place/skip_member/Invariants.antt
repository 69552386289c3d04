use Rattle.std.proofs.Common.{◌≡◌, ◌+◌, ◌≤◌, length}
use Rattle.kd_check.specs.Place.{after_commas, rests}
use Rattle.kd_check.proofs.place.skip_member.Given as goal

abbrev pub invariant-rests : goal.invariant-rests
invariant-rests l = record {
  within : l.depth + length l.rest ≤ length l.text;
  same : after_commas l.depth (rests l.rest) ≡ after_commas 0 (rests l.text);
}

abbrev pub decreases-rests : goal.decreases-rests
decreases-rests l = length l.rest
