use Rattle.kd_lease.proofs.Places.{placed_by_header}
use Rattle.kd_lease.proofs.laws.place_by_header.Goals as goal

pub returns : goal.returns
returns c = λ config m none. placed_by_header config m none
