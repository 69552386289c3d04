use Rattle.std.proofs.Common.{ap, ◌∙◌, rules}
use Rattle.kd_answers.proofs.refusal.refusal.Goals as goal

pub returns : goal.returns
returns g c =
    record {
      name = c.as_str.result.now;
      out = search rules;
      fault = c.own-2.ensures ∙ ap (λ v. v.items) c.into_bytes.ensures.value ∙ c.in_ok-line.ensures;
      status = c.exit_status.ensures;
    }
