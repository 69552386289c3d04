use Rattle.std.proofs.Common.{◌≡◌, ◌≤◌, true, take}
use Rattle.std.specs.List.{list_all}
use Rattle.kd_config.specs.Rules.{lies_within}
use Rattle.kd_json.proofs.rules.pools.check_pools.Given as goal

abbrev pub invariant-loop-i : goal.invariant-loop-i
invariant-loop-i l = record {
  below : l.i ≤ l.apart;
  within : list_all (lies_within l.prefix) (take l.i l.pools) ≡ true;
}
