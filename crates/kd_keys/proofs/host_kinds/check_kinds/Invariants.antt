use Rattle.std.proofs.Common.{◌≡◌, drop}
use Rattle.std.specs.List.{list_all}
use Rattle.serde_json.specs.View.{view}
use Rattle.kd_keys.specs.HostKinds.{are_all_found, is_found_if_given}
use Rattle.kd_keys.proofs.host_kinds.check_kinds.Given as goal

abbrev pub invariant-loop-kind : goal.invariant-loop-kind
invariant-loop-kind l =
    are_all_found l.kinds (view l.host)
    ≡ list_all (is_found_if_given l.kinds (view l.host)) (drop l.kind-index l.order)
