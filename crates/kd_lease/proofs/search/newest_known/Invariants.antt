use Rattle.kd_lease.specs.Rules.{asking}
use Rattle.kd_lease.proofs.Newest.{AreKnown}
use Rattle.kd_lease.proofs.search.newest_known.Given as goal

abbrev pub invariant-loop-i : goal.invariant-loop-i
invariant-loop-i l = AreKnown (asking l.choosing.question.now) l.choosing.subnet.now l.i l.known.own l.known.past
