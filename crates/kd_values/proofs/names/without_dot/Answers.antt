use Rattle.std.proofs.Common.{◌∙◌, arith, length, sym}
use Rattle.std.proofs.lemmas.Bool.{eqb-false}
use Rattle.kd_values.proofs.Dots.{dot_is_cut, dot_is_kept}
use Rattle.kd_values.proofs.names.without_dot.Goals as goal

pub returns : goal.returns
returns c =
    let some = eqb-false (length c.args.text.now) 0 (sym c.is_empty.ensures ∙ c.if-is_empty.false) in
    sym (dot_is_cut c.args.text.now (omega (arith, some)) c.if-text-ne46.false)

pub returns-then-text-ne46 : goal.returns-then-text-ne46
returns-then-text-ne46 c =
    let some = eqb-false (length c.args.text.now) 0 (sym c.is_empty.ensures ∙ c.if-is_empty.false) in
    sym (dot_is_kept c.args.text.now (omega (arith, some)) c.if-text-ne46.true)
