use Rattle.std.proofs.Common.{nat_eq, take}
use Rattle.indexmap.specs.IndexMap.{get_by}
use Rattle.kd_config.specs.Reservation.{AreAddresses}
use Rattle.kd_config.proofs.reservations.addresses_of.Given as goal

abbrev pub invariant-loop-i : goal.invariant-loop-i
invariant-loop-i l = AreAddresses (λ a. get_by (nat_eq a) l.addresses) (take l.i l.list)
