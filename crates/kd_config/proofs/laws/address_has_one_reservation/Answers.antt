use Rattle.kd_config.proofs.ReservationPlaces.{one_of_address}
use Rattle.kd_config.proofs.laws.address_has_one_reservation.Goals as goal

pub returns : goal.returns
returns c = one_of_address
