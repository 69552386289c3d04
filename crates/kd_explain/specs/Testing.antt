-- How classes are tested on a message (Kea Administrator Reference Manual, chapter Client
-- Classification): each in order, with the names held before it.
use Rattle.std.specs.Prelude.{◌≡◌, ℕ, if◌then◌else◌, List, [], ◌∷◌, Option, Some, None}
use Rattle.kd_classes.specs.declared.definition.ClassDef.{ClassDef}
use Rattle.kd_machine.specs.Held.{with_name}
use Rattle.kd_machine.specs.Run.{Run}
use Rattle.kd_machine.specs.declared.run.Outcome.{Outcome}
use Rattle.kd_options.specs.Message.{Seen}
use Rattle.kd_token.specs.File.{Code}

-- a run of a class's test with the names held gives this outcome, and the class's name is added to
-- them if the outcome is true; a class without a test has no outcome
abbrev pub IsTestedBy : Option Code → Seen → List ℕ → List (List ℕ) → Option Outcome
    → List (List ℕ) → Type 0
IsTestedBy None message name held None more = more ≡ held
IsTestedBy None message name held (Some outcome) more = ⊥
IsTestedBy (Some program) message name held None more = ⊥
IsTestedBy (Some program) message name held (Some outcome) more =
    Run program message held outcome
    × (more ≡ (if outcome.value then with_name name held else held))

-- a class is tested with the names held before it
abbrev pub IsTested : Seen → ClassDef → List (List ℕ) → Option Outcome → List (List ℕ) → Type 0
IsTested message class held outcome more =
    IsTestedBy class.test message class.name held outcome more

-- classes are tested in order, from the names held before them to those held after them
abbrev pub AreTested : Seen → List ClassDef → List (List ℕ) → List (Option Outcome)
    → List (List ℕ) → Type 0
AreTested message [] held [] names = names ≡ held
AreTested message [] held (outcome ∷ list) names = ⊥
AreTested message (class ∷ classes) held [] names = ⊥
AreTested message (class ∷ classes) held (outcome ∷ list) names =
    (more : List (List ℕ)) × IsTested message class held outcome more
    × AreTested message classes more list names
