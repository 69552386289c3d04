use Rattle.std.proofs.Common.{◌≡◌, ◌++◌, drop}
use Rattle.kd_config.specs.Rules.{pool_ranges}
use Rattle.kd_json.proofs.rules.pools.all_ranges.Given as goal

abbrev pub invariant-loop-subnet : goal.invariant-loop-subnet
invariant-loop-subnet l = l.ranges.items ++ pool_ranges (drop l.subnet-index l.subnets) ≡ pool_ranges l.subnets
