use Rattle.std.proofs.Common.{◌≡◌, take}
use Rattle.std.specs.List.{flat_map}
use Rattle.kd_pools.specs.Walking.{subnet_reserved}
use Rattle.kd_pools.proofs.reserved.reserved_in_order.Given as goal

abbrev pub invariant-loop-subnet : goal.invariant-loop-subnet
invariant-loop-subnet l = l.list.items ≡ flat_map subnet_reserved (take l.subnet-index l.subnets)
