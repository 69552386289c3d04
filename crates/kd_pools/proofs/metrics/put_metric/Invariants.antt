use Rattle.std.proofs.Common.{◌≡◌, ◌++◌, take}
use Rattle.std.specs.Prelude.{string_bytes}
use Rattle.std.specs.List.{flat_map}
use Rattle.kd_pools.specs.Printed.{subnet_samples}
use Rattle.kd_pools.proofs.metrics.put_metric.Given as goal

abbrev pub invariant-loop-subnet : goal.invariant-loop-subnet
invariant-loop-subnet l = string_bytes l.out ≡ string_bytes l.initial.out ++ flat_map (subnet_samples l.metric) (take l.subnet-index l.uses)
