use Rattle.std.proofs.Common.{◌≡◌, ◌≤◌, ◌*◌, length, map, take}
use Rattle.kd_pools.specs.Uses.{pool_use, sums_of}
use Rattle.kd_pools.specs.Walking.{IsAtMost, is_listed}
use Rattle.kd_pools.proofs.uses.use_of.Given as goal

abbrev pub invariant-loop-pool : goal.invariant-loop-pool
invariant-loop-pool l = record {
  pools : l.pools.items ≡ map (pool_use (is_listed l.reserved) l.rows.rows l.now) (take l.pool-index l.subnet.pools);
  counts : l.counts ≡ sums_of l.pools.items;
  few : IsAtMost (65536 * l.pool-index) l.counts;
  within : l.pool-index ≤ length l.subnet.pools;
}
