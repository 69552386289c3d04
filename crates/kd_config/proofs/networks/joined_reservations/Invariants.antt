use Rattle.std.proofs.Common.{◌≡◌, ◌++◌, drop}
use Rattle.std.specs.List.{flat_map}
use Rattle.kd_config.specs.Networks.{reservations_within}
use Rattle.kd_config.proofs.networks.joined_reservations.Given as goal

abbrev pub invariant-loop-subnet : goal.invariant-loop-subnet
invariant-loop-subnet l = l.list.items ++ flat_map (reservations_within l.number) (drop l.subnet-index l.subnets) ≡ flat_map (reservations_within l.number) l.subnets
