use Rattle.std.specs.Prelude.{string_bytes}
use Rattle.kd_explain.proofs.Accounts.{explained_by}
use Rattle.kd_explain.proofs.account.message_text.Goals as goal

pub returns : goal.returns
returns c =
    explained_by (λ text. string_bytes text) c.args.config.now c.args.rows.now.rows c.args.message.now c.args.moment c.in_ok-explanation.explanation c.explanation_text.result
    c.in_ok-explanation.ensures.explains c.explanation_text.ensures
