use Rattle.std.proofs.Common.{◌≡◌, ◌++◌, take}
use Rattle.std.specs.Prelude.{string_bytes}
use Rattle.std.specs.List.{flat_map}
use Rattle.kd_program.specs.Advice.{pool_advice}
use Rattle.kd_program.proofs.advice.put_pools.Given as goal

abbrev pub invariant-loop-pool : goal.invariant-loop-pool
invariant-loop-pool l = string_bytes l.text ≡ string_bytes l.initial.text ++ flat_map (pool_advice l.name l.config l.subnet.prefix) (take l.pool-index l.subnet.pools)
