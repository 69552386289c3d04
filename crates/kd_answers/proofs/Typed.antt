-- From what the reader of class tests says of a text to what is printed of it.
use Rattle.std.proofs.Common.{◌≡◌, ◌≢◌, ◌↔◌, ◌<◌, ◌∙◌, ℕ, ap, subst, sym, List, length, Result, Ok, Err}
use Rattle.std.specs.Result.{IfOk}
use Rattle.kd_expr.specs.Faults.{expr_fault_number}
use Rattle.kd_expr.specs.Grammar.{Parses}
use Rattle.kd_expr.specs.Tree.{Tree}
use Rattle.kd_expr.specs.declared.fault.ExprFault.{ExprFault}
use Rattle.kd_expr.specs.declared.fault.ExprFault.TheVariants.{TooLong, Memory}
use Rattle.kd_answers.specs.Printed.{IsRefusal, OfText}
use Rattle.kd_answers.specs.declared.printed.Printed.{Printed}

module _ (says : Tree → Printed → Type 0) where
  -- a text that stands for one tree
  pub spelled : {E : Type 0} (text : List ℕ) (tree : Tree) (r : Result Printed E) → Parses text tree
      → ((t : Tree) → Parses text t → tree ≡ t) → IfOk r (says tree) → IfOk r (OfText says text)
  spelled text tree (Ok p) found only said = record {
    readable = λ t h. subst (λ x. says x p) (only t h) said;
    refused = λ none. absurd (none tree found);
  }
  spelled text tree (Err error) found only said = tt

  -- a text that is read with this fault
  pub unread : {A E : Type 0} (text : List ℕ) (read : Result A ExprFault) (fault : ExprFault) (r : Result Printed E)
      → read ≡ Err fault → IfOk r (λ p. fault ≢ Memory) → ((t : Tree) → Parses text t → fault ≡ Memory)
      → ((read ≡ Err TooLong) ↔ (4096 < length text)) → IfOk r (IsRefusal (expr_fault_number fault)) → IfOk r (OfText says text)
  unread text read fault (Ok p) is ours only long line = record {
    readable = λ t h. absurd (ours (only t h));
    refused = λ none. record {
      fault = fault;
      long = (λ e. long.0 (is ∙ ap (λ x. Err x) e), λ more. let same : Err fault ≡ Err TooLong = sym is ∙ long.1 more in cc);
      ours = ours;
      line = line;
    };
  }
  unread text read fault (Err error) is ours only long line = tt
