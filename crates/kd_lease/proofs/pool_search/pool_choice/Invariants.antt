use Rattle.kd_lease.specs.Rules.{asking}
use Rattle.kd_lease.proofs.Pools.{NoneIn}
use Rattle.kd_lease.proofs.pool_search.pool_choice.Given as goal

abbrev pub invariant-loop-pool : goal.invariant-loop-pool
invariant-loop-pool l = NoneIn (asking l.choosing.question.now) l.choosing.subnet.now l.new l.pool-index
