use Rattle.std.proofs.Common.{sym}
use Rattle.kd_values.proofs.Joined.{no_halves}
use Rattle.kd_values.proofs.parts.halves_of.Goals as goal

pub returns-in_default-Some : goal.returns-in_default-Some
returns-in_default-Some c =
    let first = rw c.in-Some.is at c.first_part.ensures.parts in
    let second = rw c.in_default-Some.is-1 at c.first_part-in-Some.ensures.parts in
    sym (no_halves c.args.byte c.args.text.now c.first_part.result.0.now c.first_part-in-Some.result.0.now c.in-Some.rest.now c.in_default-Some.field-0-1.now first second)
