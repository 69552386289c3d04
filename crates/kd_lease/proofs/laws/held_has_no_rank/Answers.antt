use Rattle.kd_lease.proofs.Held.{no_rank}
use Rattle.kd_lease.proofs.laws.held_has_no_rank.Goals as goal

pub returns : goal.returns
returns c = no_rank
