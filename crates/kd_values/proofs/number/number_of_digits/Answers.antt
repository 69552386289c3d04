use Rattle.std.proofs.Common.{◌≡◌, ◌∙◌, ◌+◌, ◌*◌, false, ap, drop, length, sym}
use Rattle.std.specs.Prelude.{◌==◌}
use Rattle.kd_values.specs.Numbers.{based_number, if_below}
use Rattle.kd_values.proofs.Figures.{one_more, too_large}
use Rattle.kd_values.proofs.number.number_of_digits.Goals as goal

pub returns-then-number-limit-clause-spelled : goal.returns-then-number-limit-clause-spelled
unfolding based_number
returns-then-number-limit-clause-spelled c =
    let base = c.args.base in
    let at = c.loop-digit in
    let digits = c.args.digits.now in
    let some : (length digits == 0) ≡ false = sym c.is_empty.ensures ∙ c.if-is_empty.false in
    let d = c.in_ok-number.field-0 in
    let step = one_more base at.number digits at.digit-index d c.loop-digit-test.true (sym c.in_ok-number.ensures.spelled) in
    sym (rw some (ap (if_below c.args.limit) (sym at.invariant.1 ∙ step) ∙ too_large base c.args.limit (drop (at.digit-index + 1) digits) (base * at.number + d) c.if-number-limit.true))
