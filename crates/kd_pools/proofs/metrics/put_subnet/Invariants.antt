use Rattle.std.proofs.Common.{◌≡◌, ◌++◌, take}
use Rattle.std.specs.Prelude.{string_bytes}
use Rattle.std.specs.List.{flat_map}
use Rattle.kd_pools.specs.Printed.{samples_text}
use Rattle.kd_pools.proofs.metrics.put_subnet.Given as goal

abbrev pub invariant-loop-pool : goal.invariant-loop-pool
invariant-loop-pool l = string_bytes l.out ≡ string_bytes l.initial.out ++ flat_map (samples_text l.metric l.subnet.prefix) (take l.pool-index l.subnet.pools)
