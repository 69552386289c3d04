use Rattle.std.proofs.Common.{◌++◌, ◌∙◌, ap, subst, sym}
use Rattle.std.specs.Prelude.{ℕ, List}
use Rattle.kd_explain.specs.Account.{IsTextOf}
use Rattle.kd_explain.proofs.text.explanation_text.Goals as goal

pub returns : goal.returns
returns c =
    let scene = c.args.scene.now in
    let said = c.in_ok-put_explanation.ensures in
    let is = said.2 ∙ ap (λ t. t ++ said.0) c.new-out.ensures.bytes in
    subst (λ (text : List ℕ). IsTextOf scene.config.now scene.rows.now.rows scene.message.now scene.moment scene.explanation.now text) (sym is) said.1
