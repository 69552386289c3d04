-- The program of a class test runs to the test's value.
use Rattle.std.proofs.Common.{◌≡◌, ℕ, ◌+◌, List, [], ◌∷◌, length, None, Ok, refl, ap, subst, arith}
use Rattle.kd_compile.specs.Compiled.{HasMeasures, KeepsMeaning, first_over}
use Rattle.kd_compile.specs.Measures.{names}
use Rattle.kd_compile.specs.Tokens.{code_of, program_for}
use Rattle.kd_compile.specs.Value.{value, truth}
use Rattle.kd_compile.proofs.Accepting.{accepted}
use Rattle.kd_compile.proofs.Fits.{code_length, has_file}
use Rattle.kd_compile.proofs.Meaning.{tree_makes, truth_is}
use Rattle.kd_compile.proofs.Places.{names_known}
use Rattle.kd_compile.proofs.Rows.{has_itself}
use Rattle.kd_compile.proofs.Typed.{well_of}
use Rattle.kd_compile.proofs.Ways.{Comes, spot}
use Rattle.kd_expr.specs.Grammar.{HasText}
use Rattle.kd_expr.specs.Tree.{Tree}
use Rattle.kd_expr.specs.Typing.{type_of}
use Rattle.kd_expr.specs.declared.typing.ValueType.TheVariants as types
use Rattle.kd_machine.specs.Laws.{AcceptedEnds, HasOneEnd}
use Rattle.kd_machine.specs.declared.run.Outcome.{Outcome}
use Rattle.kd_machine.specs.Val.{Val, Truth}
use Rattle.kd_machine.specs.World.{world}
use Rattle.kd_options.specs.Message.{Seen}
use Rattle.kd_token.specs.Accepts.{Accepts}
use Rattle.kd_token.specs.File.{HasFile}

-- the program comes from its first place to its end with the test's value
comes_to_value : (t : Tree) (message : Seen) (held : List (List ℕ)) → type_of t ≡ Ok types.Bool
    → Comes (program_for t) (world (program_for t) message held) (spot 0 []) (spot (length (code_of (names t) t)) (Truth (truth message held t) ∷ []))
comes_to_value t message held typed =
    let well = well_of t types.Bool typed in
    let made = tree_makes (program_for t) message held t well.1 (names_known t) [] 0 (has_itself (code_of (names t) t)) in
    let C : ℕ → List Val → Type 0 = λ i s. Comes (program_for t) (world (program_for t) message held) (spot 0 []) (spot i s) in
    let A : ℕ → Type 0 = λ i. C i (value message held t ∷ []) in
    let B : Val → Type 0 = λ v. C (length (code_of (names t) t)) (v ∷ []) in
    let all : 0 + length (code_of (names t) t) ≡ length (code_of (names t) t) = omega arith in
    subst B (truth_is message held t well.0 well.1) (subst A all made)

-- an accepted program of a class test keeps its meaning
keeps : AcceptedEnds → HasOneEnd → (t : Tree) → type_of t ≡ Ok types.Bool → HasFile (program_for t) → Accepts (program_for t) → KeepsMeaning t (program_for t)
keeps accepted_ends one_end t typed file accepts message held is =
    let made = comes_to_value t message held typed in
    let ends = accepted_ends (program_for t) message held file accepts is in
    let came : Outcome = record { value = truth message held t; steps = made.0; peak_depth = made.1; peak_length = made.2 } in
    (ends.0, ap (λ (o : Outcome). o.value) (one_end (program_for t) message held ends.0 came ends.1.0 made.3), ends.1)

-- the program of a class test has its measures
pub has_measures : (t : Tree) → HasMeasures t (program_for t)
has_measures t = record {
  version = refl;
  tokens = code_length (names t) t;
  names = refl;
  steps = refl;
  depth = refl;
  bound = refl;
}

-- a class test that is over no limit has a program that keeps its meaning
pub keeps_in_limits : AcceptedEnds → HasOneEnd → (t : Tree) → HasText t → type_of t ≡ Ok types.Bool → first_over t ≡ None → KeepsMeaning t (program_for t)
keeps_in_limits accepted_ends one_end t text typed within = keeps accepted_ends one_end t typed (has_file t text within) (accepted t typed)
