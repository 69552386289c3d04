use Rattle.std.proofs.Common.{◌≡◌, ◌++◌, take}
use Rattle.kd_config.specs.Rules.{reserved}
use Rattle.kd_config.proofs.reservations.put_reserved.Given as goal

abbrev pub invariant-loop-reservation : goal.invariant-loop-reservation
invariant-loop-reservation l = l.out.items ≡ l.initial.out.items ++ reserved (take l.reservation-index l.initial.reservations)
