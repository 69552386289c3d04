-- The classes that a message is in (Kea Administrator Reference Manual, chapter Client
-- Classification): definitions are tested in order, each over the names held before it.
use Rattle.std.specs.Prelude.{◌≡◌, ℕ, Bool, if◌then◌else◌, List, [], ◌∷◌, Option, Some, None}
use Rattle.kd_classes.specs.declared.definition.ClassDef.{ClassDef}
use Rattle.kd_machine.specs.Held.{base_names, with_name}
use Rattle.kd_machine.specs.Run.{Run}
use Rattle.kd_machine.specs.declared.run.Outcome.{Outcome}
use Rattle.kd_options.specs.Joined.{value_of}
use Rattle.kd_options.specs.Message.{Seen}
use Rattle.kd_token.specs.Accepts.{Accepts}
use Rattle.kd_token.specs.File.{Code, HasFile}

-- a run of a program over a message with names held gives this truth value
abbrev pub RunGives : Code → Seen → List (List ℕ) → Bool → Type 0
RunGives program message held v =
    (o : Outcome) × (o.value ≡ v) × Run program message held o

-- a name joins those held if its test is true; without a test it does not
abbrev pub JoinsBy : Option Code → Seen → List ℕ → List (List ℕ) → List (List ℕ) → Type 0
JoinsBy None message name held more = more ≡ held
JoinsBy (Some program) message name held more =
    (v : Bool) × RunGives program message held v
    × (more ≡ (if v then with_name name held else held))

-- the names held before and after a definition
abbrev pub Joins : Seen → ClassDef → List (List ℕ) → List (List ℕ) → Type 0
Joins message def held more = JoinsBy def.test message def.name held more

-- the names held before and after definitions, one after another
abbrev pub JoinInOrder : Seen → List ClassDef → List (List ℕ) → List (List ℕ) → Type 0
JoinInOrder message [] held names = names ≡ held
JoinInOrder message (def ∷ defs) held names =
    (more : List (List ℕ)) × Joins message def held more × JoinInOrder message defs more names

-- the names of the classes that a message is in, by definitions in order
abbrev pub HeldSet : Seen → List ClassDef → List (List ℕ) → Type 0
HeldSet message defs names =
    JoinInOrder message defs (base_names (value_of 60 message.options)) names

-- a test is an accepted program, if there is one
abbrev pub IsAcceptedTest : Option Code → Type 0
IsAcceptedTest None = Unit {0}
IsAcceptedTest (Some program) = HasFile program × Accepts program

-- a definition's test is an accepted program, if it has one
abbrev pub IsAccepted : ClassDef → Type 0
IsAccepted def = IsAcceptedTest def.test
