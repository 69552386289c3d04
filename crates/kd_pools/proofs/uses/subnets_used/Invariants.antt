use Rattle.std.proofs.Common.{◌≡◌, map, take}
use Rattle.std.specs.List.{AllByRecursion}
use Rattle.kd_pools.specs.Uses.{subnet_use}
use Rattle.kd_pools.specs.Walking.{IsOneSubnet, is_listed}
use Rattle.kd_pools.proofs.uses.subnets_used.Given as goal

abbrev pub invariant-loop-subnet : goal.invariant-loop-subnet
invariant-loop-subnet l = record {
  items : l.list.items ≡ map (subnet_use (is_listed l.reserved.items) l.rows.rows l.now) (take l.subnet-index l.config.subnets);
  each : AllByRecursion IsOneSubnet l.list.items;
}
