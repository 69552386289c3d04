use Rattle.std.proofs.Common.{◌≡◌, take}
use Rattle.indexmap.specs.IndexSet.{keys}
use Rattle.kd_json.proofs.FirstSubnets.{AllDecide}
use Rattle.kd_json.specs.FirstFault.{all_reserved}
use Rattle.kd_json.proofs.rules.subnets.check_each.Given as goal

abbrev pub invariant-loop-i : goal.invariant-loop-i
invariant-loop-i l = record {
  decide : AllDecide l.apart (take l.i l.subnets) l.left (keys l.earlier);
  joined : keys l.earlier ≡ all_reserved (take l.i l.subnets);
}
