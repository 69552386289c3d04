use Rattle.kd_lease.specs.Rules.{asking}
use Rattle.kd_lease.proofs.Aged.{by_state}
use Rattle.kd_lease.proofs.ages.newest_within.Goals as goal

pub returns : goal.returns
returns c =
    rw (c.newer-3.ensures, c.newer.ensures, c.newer-2.ensures) (by_state (asking c.args.question.now) c.args.sought.now c.args.first c.args.last _ _ _ _ c.newest_of-offered.ensures c.newest_of-bound.ensures c.newest_of-released.ensures c.newest_of-declined.ensures)
