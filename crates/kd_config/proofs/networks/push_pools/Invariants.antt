use Rattle.std.proofs.Common.{◌≡◌, ◌++◌, drop, map}
use Rattle.kd_config.specs.Networks.{pool_for}
use Rattle.kd_config.proofs.networks.push_pools.Given as goal

abbrev pub invariant-loop-pool : goal.invariant-loop-pool
invariant-loop-pool l = l.out.items ++ map (pool_for l.classes) (drop l.pool-index l.pools) ≡ l.fn.out.items ++ map (pool_for l.classes) l.pools
