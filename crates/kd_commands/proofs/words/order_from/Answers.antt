use Rattle.kd_commands.proofs.FromMatches.{at_entered}
use Rattle.kd_commands.proofs.words.order_from.Goals as goal

pub returns-in-Some : goal.returns-in-Some
returns-in-Some c =
    let e = c.in-Some.ensures in
    at_entered c.args.matches.now c.in-Some.inner.now c.in-Some.name.now c.order_named.result e.name e.rows c.order_named.ensures
