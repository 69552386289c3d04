use Rattle.std.proofs.Common.{◌≡◌, ℕ, ◌+◌, ◌≤◌, length}
use Rattle.std.specs.Prelude.{slice_get}
use Rattle.kd_check.specs.Place.{members}
use Rattle.kd_check.proofs.place.find_item.Given as goal

abbrev pub invariant-loop : goal.invariant-loop
invariant-loop l = record {
  within : length l.rest ≤ length l.content;
  same : (k : ℕ) → slice_get (members l.rest) k ≡ slice_get (members l.content) (l.counter + k);
}
