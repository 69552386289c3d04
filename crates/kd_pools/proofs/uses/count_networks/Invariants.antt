use Rattle.std.proofs.Common.{◌≡◌, drop, max}
use Rattle.kd_pools.specs.Uses.{greatest_network}
use Rattle.kd_pools.proofs.uses.count_networks.Given as goal

abbrev pub invariant-loop-subnet : goal.invariant-loop-subnet
invariant-loop-subnet l = max l.count (greatest_network (drop l.subnet-index l.uses)) ≡ greatest_network l.uses
