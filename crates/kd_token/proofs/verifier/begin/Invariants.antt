use Rattle.std.proofs.Common.{◌≡◌, ℕ, ◌+◌, ◌<◌, [], length}
use Rattle.kd_token.specs.declared.table.Entry.TheVariants.{Joined, Unreached}
use Rattle.kd_token.specs.Table.{entry_at}
use Rattle.kd_token.proofs.verifier.begin.Given as goal

abbrev pub invariant-places : goal.invariant-places
invariant-places l = record {
  size : length l.table.items ≡ l.counter + 1;
  origin : entry_at l.table.items 0 ≡ Joined [] 0;
  beyond : (j : ℕ) → 0 < j → entry_at l.table.items j ≡ Unreached;
}
