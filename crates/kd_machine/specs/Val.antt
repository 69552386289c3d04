-- A value of a class test, and of the machine that runs it: a truth value, a number, or a byte
-- string.
use Rattle.std.specs.Prelude.{ℕ, max, Bool, List, [], ◌∷◌, length}

-- a truth value, a number, or a byte string
pub data Val : Type 0 where
  Truth : Bool → Val
  Number : ℕ → Val
  Text : List ℕ → Val

-- a byte string
abbrev pub IsText : Val → Type 0
IsText (Truth b) = ⊥
IsText (Number n) = ⊥
IsText (Text bytes) = Unit {0}

-- the length of a value: that of a byte string, 0 for any other value
abbrev pub size : Val → ℕ
size (Truth b) = 0
size (Number n) = 0
size (Text bytes) = length bytes

-- the length of the longest value, 0 if there is none
abbrev pub longest : List Val → ℕ
longest [] = 0
longest (v ∷ s) = max (size v) (longest s)
