use Rattle.std.proofs.Common.{◌≡◌, ◌++◌, drop}
use Rattle.std.specs.List.{flat_map}
use Rattle.kd_config.specs.Networks.{pools_within}
use Rattle.kd_config.proofs.networks.joined_pools.Given as goal

abbrev pub invariant-loop-subnet : goal.invariant-loop-subnet
invariant-loop-subnet l = l.pools.items ++ flat_map (pools_within l.number) (drop l.subnet-index l.subnets) ≡ flat_map (pools_within l.number) l.subnets
