use Rattle.std.proofs.Common.{◌≡◌, drop}
use Rattle.serde_json.specs.View.{items_view}
use Rattle.kd_notes.specs.Notes.{is_said_by_members}
use Rattle.kd_notes.proofs.times.is_said_among.Given as goal

abbrev pub invariant-loop-network : goal.invariant-loop-network
invariant-loop-network l =
    is_said_by_members (items_view l.networks)
    ≡ is_said_by_members (items_view (drop l.network-index l.networks))
