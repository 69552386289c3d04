-- Programs of class tests: a text spells one tree.
use Rattle.std.proofs.Common.{◌≡◌, ◌≢◌, ℕ, List, Result, Ok, Err, None, IfOk, IfErr, sym, ap, subst, ◌∙◌}
use Rattle.kd_compile.specs.Compiled.{HasMeasures, KeepsMeaning, first_over}
use Rattle.kd_compile.specs.Measures.{names}
use Rattle.kd_json.specs.Configured.{IsProgramOf, IsTextTest}
use Rattle.kd_json.specs.declared.objects.faults.ClassesFault.{ClassesFault}
use Rattle.kd_json.specs.declared.objects.faults.ClassesFault.TheVariants.{Memory}
use Rattle.kd_expr.specs.Grammar.{Parses}
use Rattle.kd_expr.specs.Tree.{Tree}
use Rattle.kd_expr.specs.Typing.{test_type}
use Rattle.kd_token.specs.Accepts.{Accepts}
use Rattle.kd_token.specs.File.{Code}

pub compiled : (tree typed : Tree) (program : Code) → typed ≡ tree → test_type tree ≡ Ok tt → HasMeasures typed program → Accepts program → KeepsMeaning typed program → first_over typed ≡ None → IsProgramOf tree program
compiled tree typed program same is measured accepted keeps within =
    subst (λ t. IsProgramOf t program) same
    (record { typed = subst (λ t. test_type t ≡ Ok tt) (sym same) is; within = within; compiled = record { measures = measured; accepted = accepted; keeps = keeps } })

-- all programs of a text ask for the same names
pub same_names : (text : List ℕ) (tree : Tree) (result : Result Code ClassesFault) → ((t : Tree) → Parses text t → tree ≡ t) → IfOk result (λ program. IsProgramOf tree program)
    → IfOk result (λ program. (other : Code) → IsTextTest text other → other.names ≡ program.names)
same_names text tree (Err fault) only found = tt
same_names text tree (Ok program) only found =
    λ other h. h.program_of.compiled.measures.names ∙ (ap names (sym (only h.tree h.spelled)) ∙ sym found.compiled.measures.names)

-- if a tree has no program, neither has its text
pub none_of_text : (text : List ℕ) (tree : Tree) (result : Result Code ClassesFault) → ((t : Tree) → Parses text t → tree ≡ t) → IfErr result (λ fault. fault ≢ Memory → (program : Code) → IsProgramOf tree program → ⊥)
    → IfErr result (λ fault. fault ≢ Memory → (program : Code) → IsTextTest text program → ⊥)
none_of_text text tree (Ok program) only none = tt
none_of_text text tree (Err fault) only none =
    λ other program h. none other program (subst (λ t. IsProgramOf t program) (sym (only h.tree h.spelled)) h.program_of)
