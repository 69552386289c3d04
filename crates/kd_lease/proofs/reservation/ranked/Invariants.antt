use Rattle.std.proofs.Common.{◌≡◌, drop}
use Rattle.kd_lease.specs.Choice.{ranked_reservation}
use Rattle.kd_lease.proofs.reservation.ranked.Given as goal

abbrev pub invariant-loop-kind : goal.invariant-loop-kind
invariant-loop-kind l =
    ranked_reservation l.kinds l.names l.message l.subnet
    ≡ ranked_reservation (drop l.kind-index l.kinds) l.names l.message l.subnet
