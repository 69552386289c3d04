use Rattle.kd_lease.proofs.Moves.{nobody_moves}
use Rattle.kd_lease.proofs.laws.nobody_moves.Goals as goal

pub returns : goal.returns
returns c = nobody_moves
