use Rattle.std.proofs.Common.{◌≡◌, ◌≤◌, length}
use Rattle.std.specs.Prelude.{find}
use Rattle.kd_check.specs.Place.{has_key, members}
use Rattle.kd_check.proofs.place.find_plain_key.Given as goal

abbrev pub invariant-members : goal.invariant-members
invariant-members l = record {
  within : length l.rest ≤ length l.content;
  same : find (has_key l.key) (members l.rest) ≡ find (has_key l.key) (members l.content);
}

abbrev pub decreases-members : goal.decreases-members
decreases-members l = length l.rest
