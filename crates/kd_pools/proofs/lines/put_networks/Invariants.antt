use Rattle.std.proofs.Common.{◌≡◌, ◌++◌, take}
use Rattle.std.specs.Prelude.{string_bytes}
use Rattle.std.specs.List.{flat_map}
use Rattle.kd_pools.specs.Printed.{network_line}
use Rattle.kd_pools.proofs.lines.put_networks.Given as goal

abbrev pub invariant-loop-network : goal.invariant-loop-network
invariant-loop-network l = string_bytes l.out ≡ string_bytes l.initial.out ++ flat_map network_line (take l.network-index l.networks)
