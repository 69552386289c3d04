use Rattle.std.specs.Option.{option_copied}
use Rattle.kd_lease.specs.Rules.{asking}
use Rattle.kd_lease.proofs.Aged.{IsReached, newness}
use Rattle.kd_lease.proofs.ages.newest_of.Given as goal

abbrev pub invariant-loop-found : goal.invariant-loop-found
invariant-loop-found l = IsReached (asking l.question) l.sought l.state l.first l.last (option_copied l.found)

abbrev pub decreases-loop-found : goal.decreases-loop-found
decreases-loop-found l = newness (option_copied l.found)
