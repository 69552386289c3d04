use Rattle.std.proofs.Common.{◌≡◌, ◌++◌, List, length, reverse}
use Rattle.kd_config.specs.Places.{AreFirst, AreNext}
use Rattle.kd_config.specs.declared.reservation.Reservation.{Reservation}
use Rattle.kd_config.proofs.clients.put_all.Given as goal

abbrev pub invariant-loop-left : goal.invariant-loop-left
invariant-loop-left l =
    (behind : List Reservation) × (l.list ≡ l.left ++ behind)
    × AreFirst l.clients (length l.left) behind
    × AreNext (length l.left) behind (reverse l.places.items)

abbrev pub decreases-loop-left : goal.decreases-loop-left
decreases-loop-left l = length l.left
