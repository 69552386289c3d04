use Rattle.std.proofs.Common.{◌≡◌, ◌≤◌, ◌+◌, ◌++◌, length}
use Rattle.std.specs.Vec.Iter.{into_iter_items}
use Rattle.kd_kea.specs.Network.{numbered}
use Rattle.kd_kea.proofs.objects.network.numbered_members.Given as goal

abbrev pub invariant-loop-members : goal.invariant-loop-members
invariant-loop-members l =
    (l.all.items ++ numbered l.number (into_iter_items l.members-iterator) ≡ numbered 1 l.fn.networks)
    × (l.number + length (into_iter_items l.members-iterator) ≤ 257)
