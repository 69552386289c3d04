use Rattle.std.proofs.Common.{◌≡◌, ◌++◌, drop, map}
use Rattle.kd_config.specs.Networks.{reservation_for}
use Rattle.kd_config.proofs.networks.push_reservations.Given as goal

abbrev pub invariant-loop-reservation : goal.invariant-loop-reservation
invariant-loop-reservation l = l.out.items ++ map (reservation_for l.classes) (drop l.reservation-index l.reservations) ≡ l.fn.out.items ++ map (reservation_for l.classes) l.reservations
