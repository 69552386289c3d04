use Rattle.kd_lease.proofs.Moves.{clients_move}
use Rattle.kd_lease.proofs.laws.clients_move.Goals as goal

pub returns : goal.returns
returns c = clients_move
