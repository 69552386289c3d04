use Rattle.std.proofs.Common.{◌≡◌, ◌≤◌, length}
use Rattle.kd_check.specs.Place.{named_by, segments_of}
use Rattle.kd_check.proofs.place.walk.Given as goal

abbrev pub invariant-segments : goal.invariant-segments
invariant-segments l = record {
  within : length l.member ≤ length l.whole;
  same : named_by (segments_of l.path) l.member ≡ named_by (segments_of l.segments) l.whole;
}

abbrev pub decreases-segments : goal.decreases-segments
decreases-segments l = length l.path
