use Rattle.std.proofs.Common.{◌∙◌, ◌++◌, ap, option_map, sym}
use Rattle.kd_values.specs.Signs.{signs_read}
use Rattle.kd_values.proofs.Letters.{first_and_rest, sign_read}
use Rattle.kd_values.proofs.signs.text_of.Goals as goal

pub loop-left-preserved : goal.loop-left-preserved
loop-left-preserved c =
    let at = c.loop-left in
    let read = c.in-Some in
    let whole = first_and_rest at.left.now c.in-len1-up.len_at_least in
    rw c.in_ok-push.ensures.items
    (sym (sign_read at.signs.items read.sign (signs_read read.behind.now))
    ∙ ap (option_map (λ v. at.signs.items ++ v)) (sym read.ensures.read ∙ ap signs_read whole)
    ∙ at.invariant)
