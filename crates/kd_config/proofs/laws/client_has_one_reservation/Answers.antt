use Rattle.kd_config.proofs.ReservationPlaces.{one_of_identity}
use Rattle.kd_config.proofs.laws.client_has_one_reservation.Goals as goal

pub returns : goal.returns
returns c = one_of_identity
