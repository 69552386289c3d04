use Rattle.std.proofs.Common.{arith}
use Rattle.std.proofs.lemmas.Bool.Decides.{nat_tests}
use Rattle.kd_pools.proofs.Listed.{at_place, past_place}
use Rattle.kd_pools.proofs.reserved.is_at.Goals as goal

pub returns-then-place-list : goal.returns-then-place-list
returns-then-place-list c = at_place c.args.list.now c.args.place c.args.address c.requires.rising c.requires.place c.if-place-list.true

pub returns-else-place-list : goal.returns-else-place-list
returns-else-place-list c =
    let none = past_place c.args.list.now c.args.place c.args.address c.requires.place c.if-place-list.false in
    grind (arith, nat_tests)
