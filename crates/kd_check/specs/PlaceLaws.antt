-- Texts in which strings and brackets are paired, and the members of a container made of them.
use Rattle.std.specs.Prelude.{◌≡◌, ℕ, Bool, true, false, ◌||◌, ◌==◌, List, [], ◌∷◌, ◌++◌}
use Rattle.kd_check.specs.Place.{is_closing, is_opening}

-- what is between the quotation marks of a string: no quotation mark but behind a backslash
pub data IsInString : List ℕ → Type 0 where
  closed : IsInString []
  plain : (b : ℕ) (text : List ℕ) → (b == 34 || b == 92) ≡ false → IsInString text → IsInString (b ∷ text)
  escaped : (b : ℕ) (text : List ℕ) → IsInString text → IsInString (92 ∷ b ∷ text)

-- a bracket, a comma or a quotation mark
abbrev pub is_mark : ℕ → Bool
is_mark b = is_opening b || is_closing b || b == 44 || b == 34

-- a text in which strings and brackets are paired: as a value is, and as the content of a bracket
-- is, which may have commas
pub data IsPaired : Bool → List ℕ → Type 0 where
  empty : (commas : Bool) → IsPaired commas []
  other : (commas : Bool) (b : ℕ) (text : List ℕ) → is_mark b ≡ false → IsPaired commas text → IsPaired commas (b ∷ text)
  comma : (text : List ℕ) → IsPaired true text → IsPaired true (44 ∷ text)
  string : (commas : Bool) (inside text : List ℕ) → IsInString inside → IsPaired commas text → IsPaired commas (34 ∷ (inside ++ 34 ∷ text))
  array : (commas : Bool) (inside text : List ℕ) → IsPaired true inside → IsPaired commas text → IsPaired commas (91 ∷ (inside ++ 93 ∷ text))
  object : (commas : Bool) (inside text : List ℕ) → IsPaired true inside → IsPaired commas text → IsPaired commas (123 ∷ (inside ++ 125 ∷ text))

-- texts with a comma before each but the first, and an end
abbrev pub separated : List ℕ → List (List ℕ) → List ℕ → List ℕ
separated first [] end = first ++ end
separated first (next ∷ more) end = first ++ 44 ∷ separated next more end

-- the same from each of the texts on
abbrev pub from_each : List ℕ → List (List ℕ) → List ℕ → List (List ℕ)
from_each first [] end = separated first [] end ∷ []
from_each first (next ∷ more) end = separated first (next ∷ more) end ∷ from_each next more end
