use Rattle.std.proofs.Common.{arith}
use Rattle.std.proofs.lemmas.Bool.Decides.{nat_tests}
use Rattle.std.proofs.lemmas.List.{take_rest}
use Rattle.kd_check.proofs.Keys.{key_parts}
use Rattle.kd_check.proofs.place.begins_with_key.Goals as goal
use Rattle.kd_check.proofs.place.begins_with_key.Goals.{then-first-eq34, else-first-eq34}

pub returns-then-starts_with : goal.returns-then-starts_with
returns-then-starts_with c =
    let parts = key_parts c.in-Some.first.now c.args.key.now c.in-Some.rest.now c.args.member.now c.in-Some.ensures.cases.0 in
    elim c.if-first-eq34.branch [
      | then-first-eq34 w ↦ rw parts (grind (arith, nat_tests, take_rest))
      | else-first-eq34 w ↦ rw parts (grind (arith, nat_tests))
    ]

pub returns-else-starts_with : goal.returns-else-starts_with
returns-else-starts_with c =
    let parts = key_parts c.in-Some.first.now c.args.key.now c.in-Some.rest.now c.args.member.now c.in-Some.ensures.cases.0 in
    elim c.if-first-eq34.branch [
      | then-first-eq34 w ↦ rw parts (grind (arith, nat_tests))
      | else-first-eq34 w ↦ rw parts (grind (arith, nat_tests))
    ]
