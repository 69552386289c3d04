-- How a line is split into its words.
use Rattle.std.specs.Prelude.{◌≡◌, ℕ, ◌==◌, false, List, [], ◌∷◌, ◌++◌, ◌⊎◌}

-- a text that does not contain a byte
abbrev pub HasNo : ℕ → List ℕ → Type 0
HasNo byte [] = Unit {0}
HasNo byte (b ∷ text) = ((b == byte) ≡ false) × HasNo byte text

-- a text is split at the first occurrence of a byte: the front is the text before it, the back the
-- text after it; if the byte does not occur, the front is the whole text and the back is empty
pub record IsCutOff (byte : ℕ) (text front back : List ℕ) : Type 0 where
  pub plain : HasNo byte front
  pub parts : (text ≡ front ++ byte ∷ back) ⊎ ((text ≡ front) × (back ≡ []))
