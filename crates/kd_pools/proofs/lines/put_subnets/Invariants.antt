use Rattle.std.proofs.Common.{◌≡◌, ◌++◌, take}
use Rattle.std.specs.Prelude.{string_bytes}
use Rattle.std.specs.List.{flat_map}
use Rattle.kd_pools.specs.Printed.{subnet_lines}
use Rattle.kd_pools.proofs.lines.put_subnets.Given as goal

abbrev pub invariant-loop-subnet : goal.invariant-loop-subnet
invariant-loop-subnet l = string_bytes l.out ≡ string_bytes l.initial.out ++ flat_map subnet_lines (take l.subnet-index l.subnets)
