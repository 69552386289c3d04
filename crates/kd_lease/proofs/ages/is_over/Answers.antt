use Rattle.std.proofs.Common.{◌≤◌, arith}
use Rattle.std.proofs.lemmas.Bool.Decides.{nat_tests}
use Rattle.kd_lease.specs.Rules.{asking}
use Rattle.kd_lease.proofs.Aged.{all_ended}
use Rattle.kd_lease.proofs.ages.is_over.Goals as goal

pub returns-in-Some-clause-ended : goal.returns-in-Some-clause-ended
returns-in-Some-clause-ended c = λ is a other at of early.
    let early_enough : c.args.row.now.changed ≤ c.in-Some.moment = grind (arith, nat_tests, is) in
    all_ended (asking c.args.question.now) c.args.state c.longest.result c.args.row.now.changed (omega (arith, early_enough, c.in-Some.ensures.0, c.in-Some.ensures.1)) c.longest.ensures a other at of early
