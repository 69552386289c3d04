-- The names of classes that a message is in.
use Rattle.std.specs.Prelude.{ℕ, List, [], ◌∷◌, ◌++◌, Option, Some, None, if◌then◌else◌, codes}
use Rattle.kd_machine.specs.Parts.{is_held}

-- the names with one more; a name that is there already is not added twice
abbrev pub with_name : List ℕ → List (List ℕ) → List (List ℕ)
with_name name held = if is_held name held then held else held ++ name ∷ []

-- the names before any definition, given the value of option 60
abbrev pub base_names : Option (List ℕ) → List (List ℕ)
base_names None = codes "ALL" ∷ []
base_names (Some class) = codes "ALL" ∷ (codes "VENDOR_CLASS_" ++ class) ∷ []
