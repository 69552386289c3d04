use Rattle.std.specs.Option.{option_copied}
use Rattle.kd_config.specs.Classed.{classes_admit}
use Rattle.kd_config.specs.Reservation.{is_client_if}
use Rattle.kd_config.proofs.Chains.{IsLeft, count_left}
use Rattle.kd_config.proofs.reservations.Reservations.admitting.Given as goal

abbrev pub invariant-loop-found : goal.invariant-loop-found
invariant-loop-found l = IsLeft (λ r. is_client_if l.fn.kind (option_copied l.bytes) r.identity) (λ r. classes_admit r.classes l.names) l.self l.found

abbrev pub decreases-loop-found : goal.decreases-loop-found
decreases-loop-found l = count_left l.self l.found
