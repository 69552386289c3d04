use Rattle.std.proofs.Common.{◌≡◌, ◌+◌, ◌-◌, ◌^◌, min, take}
use Rattle.std.specs.List.{sum_by}
use Rattle.kd_program.specs.Banner.{pool_size}
use Rattle.kd_program.proofs.banner.with_pools.Given as goal

abbrev pub invariant-loop-pool : goal.invariant-loop-pool
invariant-loop-pool l = l.all ≡ min (l.sum + sum_by pool_size (take l.pool-index l.pools)) (2 ^ 64 - 1)
