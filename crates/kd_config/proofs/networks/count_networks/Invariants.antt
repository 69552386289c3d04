use Rattle.std.proofs.Common.{◌≡◌, drop, max}
use Rattle.kd_config.specs.Networks.{network_count}
use Rattle.kd_config.proofs.networks.count_networks.Given as goal

abbrev pub invariant-loop-subnet : goal.invariant-loop-subnet
invariant-loop-subnet l = max l.count (network_count (drop l.subnet-index l.subnets)) ≡ network_count l.subnets
