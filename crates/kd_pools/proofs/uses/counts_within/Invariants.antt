use Rattle.std.proofs.Common.{◌≡◌, ◌≤◌, ◌*◌, length, take}
use Rattle.kd_pools.specs.Uses.{sums_within}
use Rattle.kd_pools.specs.Walking.{IsAtMost}
use Rattle.kd_pools.proofs.uses.counts_within.Given as goal

abbrev pub invariant-loop-subnet : goal.invariant-loop-subnet
invariant-loop-subnet l = record {
  counts : l.counts ≡ sums_within l.network (take l.subnet-index l.uses);
  few : IsAtMost (4194304 * l.subnet-index) l.counts;
}
