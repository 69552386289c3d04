use Rattle.std.proofs.Common.{◌≡◌, ◌++◌, drop}
use Rattle.serde_json.specs.View.{items_view}
use Rattle.kd_keys.specs.HostKinds.{named_kinds}
use Rattle.kd_keys.proofs.host_kinds.order_named.Given as goal

abbrev pub invariant-loop-name : goal.invariant-loop-name
invariant-loop-name l =
    l.order.items ++ named_kinds (items_view (drop l.name-index l.names))
    ≡ named_kinds (items_view l.names)
