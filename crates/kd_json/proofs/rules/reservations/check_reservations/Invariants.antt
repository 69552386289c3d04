use Rattle.std.proofs.Common.{◌≡◌, ◌++◌, map, take}
use Rattle.indexmap.specs.IndexSet.{keys}
use Rattle.kd_json.proofs.FirstFaults.{Decide}
use Rattle.kd_json.specs.Parts.{client_by}
use Rattle.kd_config.specs.Rules.{reserved}
use Rattle.kd_json.proofs.rules.reservations.check_reservations.Given as goal

abbrev pub invariant-loop-i : goal.invariant-loop-i
invariant-loop-i l = record {
  joined : keys l.earlier ≡ keys l.fn.earlier ++ reserved (take l.i l.reservations);
  left : Decide l.prefix (keys l.fn.earlier) (take l.i l.reservations) (keys l.earlier)
      (map client_by (keys l.clients));
}
