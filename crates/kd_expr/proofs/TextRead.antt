-- What is returned for a text is its tree, and a refusal other than for memory means that it has
-- none.
use Rattle.std.proofs.Common.{◌≡◌, ◌≢◌, ℕ, length, List, refl, sym, ◌∙◌, Ok, Err}
use Rattle.kd_expr.specs.Grammar.{Parses}
use Rattle.kd_expr.specs.Lexing.{tokens_from}
use Rattle.kd_expr.specs.Reading.{whole_at}
use Rattle.kd_expr.specs.Tree.{Tree}
use Rattle.kd_expr.specs.declared.fault.SyntaxFault.{SyntaxFault}
use Rattle.kd_expr.specs.declared.fault.ExprFault.{ExprFault}
use Rattle.kd_expr.specs.declared.fault.ExprFault.TheVariants as faults
use Rattle.kd_expr.proofs.Options.{ok_is, err_is}
use Rattle.kd_expr.proofs.Texts.{parse_complete}

only_memory : (fault : ExprFault) → ((fault ≢ faults.Memory) → ⊥) → fault ≡ faults.Memory
only_memory (faults.BadToken at) h = absurd (h (λ e. cc))
only_memory (faults.Expected at) h = absurd (h (λ e. cc))
only_memory (faults.NumberTooLarge at) h = absurd (h (λ e. cc))
only_memory (faults.TooNested at) h = absurd (h (λ e. cc))
only_memory faults.TooLong h = absurd (h (λ e. cc))
only_memory (faults.UnknownName at) h = absurd (h (λ e. cc))
only_memory faults.Memory h = refl

-- the tree that is returned is the one that the text has
pub same_tree : (text : List ℕ) (t u : Tree) → whole_at (length text) (tokens_from (length text) 0 text) ≡ Ok u → Parses text t → u ≡ t
same_tree text t u e p = ok_is (sym e ∙ parse_complete text t p)

-- if the text has a tree, it is refused only when out of memory
pub refused_for_memory : (text : List ℕ) (t : Tree) (fault : ExprFault) (inner : SyntaxFault) → ((fault ≢ faults.Memory) → whole_at (length text) (tokens_from (length text) 0 text) ≡ Err inner) → Parses text t → fault ≡ faults.Memory
refused_for_memory text t fault inner h p = only_memory fault (λ other. err_is (sym (h other) ∙ parse_complete text t p))
