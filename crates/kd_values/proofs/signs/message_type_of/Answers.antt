use Rattle.std.proofs.Common.{◌∙◌, [], ◌∷◌, sym}
use Rattle.kd_values.specs.Signs.{gives_type}
use Rattle.kd_values.proofs.Letters.{pass_over}
use Rattle.kd_values.proofs.signs.message_type_of.Goals as goal

pub loop-number-preserved : goal.loop-number-preserved
loop-number-preserved c =
    sym (pass_over (gives_type c.args.text.now) (1 ∷ 2 ∷ 3 ∷ 4 ∷ 5 ∷ 6 ∷ 7 ∷ 8 ∷ []) c.loop-number.number-index c.loop-number-test.true
    (sym c.in_ok-is_message_type.ensures ∙ c.if-branch.false))
    ∙ c.loop-number.invariant
