use Rattle.std.proofs.Common.{◌++◌, ap, ap₂, ◌∙◌}
use Rattle.std.specs.Prelude.{string_bytes}
use Rattle.kd_why.proofs.why.why_text.Goals as goal

pub returns-clause-text : goal.returns-clause-text
returns-clause-text c =
    record {
      ends = record {
        handled = c.in_ok-handled.handled;
        answers = c.in_ok-handled.ensures.answer;
        front = string_bytes c.in_ok-account_text.field-0;
        is =
            c.in_ok-extend_from_slice.ensures.items
            ∙ ap₂ (λ a b. a ++ b) (ap (λ v. v.items) c.into_bytes-text.ensures.value) (c.deref.ensures.value ∙ c.in_ok-line.ensures);
      };
      says = c.in_ok-account_text.ensures;
    }
