use Rattle.kd_lease.specs.Rules.{IsNewest, asking}
use Rattle.kd_lease.proofs.Aged.{sought_up_to}
use Rattle.kd_lease.proofs.ages.newest_in.Given as goal

abbrev pub invariant-loop-pool : goal.invariant-loop-pool
invariant-loop-pool l = IsNewest (asking l.question).rows (sought_up_to (asking l.question) l.sought l.choosing l.pool-index) l.best
