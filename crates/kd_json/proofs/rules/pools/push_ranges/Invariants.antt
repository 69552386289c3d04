use Rattle.std.proofs.Common.{◌≡◌, ◌++◌, take}
use Rattle.kd_config.specs.Rules.{ranges_in}
use Rattle.kd_json.proofs.rules.pools.push_ranges.Given as goal

abbrev pub invariant-loop-pool : goal.invariant-loop-pool
invariant-loop-pool l = l.ranges.items ≡ l.fn.ranges.items ++ ranges_in (take l.pool-index l.pools)
