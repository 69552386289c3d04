-- Texts cut at the commas that have no backslash right before them.
use Rattle.std.proofs.Common.{◌≡◌, ℕ, ◌<◌, Bool, true, false, not, ◌&&◌, List, [], ◌∷◌, ◌++◌, length, if◌then◌else◌, refl, arith}
use Rattle.std.specs.Prelude.{◌==◌}
use Rattle.std.specs.List.{onto_first}
use Rattle.kd_values.specs.Fields.{parts_behind}

-- parts with a text before the first
abbrev pub prefixed : List ℕ → List (List ℕ) → List (List ℕ)
prefixed front [] = front ∷ []
prefixed front (part ∷ parts) = (front ++ part) ∷ parts

some_onto : (b : ℕ) (parts : List (List ℕ)) → 0 < length (onto_first b parts)
some_onto b [] = omega arith
some_onto b (part ∷ parts) = omega arith

-- there is a part
pub some_parts : (escaped : Bool) (text : List ℕ) → 0 < length (parts_behind escaped text)
some_parts escaped [] = omega arith
some_parts escaped (b ∷ text) = by (b == 44 && not escaped)
  where
    by : (t : Bool) → 0 < length (if t then [] ∷ parts_behind false text else onto_first b (parts_behind (b == 92) text))
    by true = omega arith
    by false = some_onto b (parts_behind (b == 92) text)

-- nothing before the first
pub nothing_before : (escaped : Bool) (text : List ℕ) → prefixed [] (parts_behind escaped text) ≡ parts_behind escaped text
nothing_before escaped text = by (parts_behind escaped text) (some_parts escaped text)
  where
    by : (parts : List (List ℕ)) → 0 < length parts → prefixed [] parts ≡ parts
    by [] some = absurd (omega (arith, some))
    by (part ∷ parts) some = refl
