use Rattle.std.proofs.Common.{◌≡◌, length}
use Rattle.serde_json.specs.View.{items_view}
use Rattle.kd_keys.specs.HostKinds.{name_kinds}
use Rattle.kd_keys.proofs.host_kinds.are_kinds.Given as goal

abbrev pub invariant-loop-left : goal.invariant-loop-left
invariant-loop-left l = name_kinds (items_view l.names) ≡ name_kinds (items_view l.left)

abbrev pub decreases-loop-left : goal.decreases-loop-left
decreases-loop-left l = length l.left
