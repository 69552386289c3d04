-- An area of options (RFC 2132 section 2, RFC 2131 section 4.1): pads, pieces and an end.
use Rattle.std.specs.Prelude.{◌≡◌, ℕ, ◌<◌, List, [], ◌∷◌, ◌++◌, length}
use Rattle.std.specs.List.{flat_map, AllByRecursion}

-- a code and a value
abbrev pub Piece : Type 0
Piece = ℕ × List ℕ

-- what can come before the end: a pad or a piece
pub data Slot : Type 0 where
  pad : Slot
  piece : ℕ → List ℕ → Slot

-- the bytes of a slot: a pad is a zero; a piece is its code, the length of its value, and the value
abbrev pub spelled : Slot → List ℕ
spelled pad = 0 ∷ []
spelled (piece code value) = code ∷ length value ∷ value

-- the codes of pieces: 0 is the pad, and 255 is the End
abbrev pub IsCode : ℕ → Type 0
IsCode code = (0 < code) × (code < 255)

-- a slot that the standard allows
abbrev pub IsSlot : Slot → Type 0
IsSlot pad = Unit {0}
IsSlot (piece code value) = IsCode code

-- the piece in a slot, if it holds one
abbrev pub piece_of : Slot → List Piece
piece_of pad = []
piece_of (piece code value) = (code, value) ∷ []

-- an area ends at the end of the bytes, or at an End, whatever follows it
abbrev pub IsEnd : List ℕ → Type 0
IsEnd [] = Unit {0}
IsEnd (b ∷ bytes) = b ≡ 255

-- an option that is cut off: it has no length byte, or fewer bytes follow than its length says
abbrev pub IsCutOption : List ℕ → Type 0
IsCutOption [] = ⊥
IsCutOption (code ∷ []) = IsCode code
IsCutOption (code ∷ n ∷ bytes) = IsCode code × (length bytes < n)

-- the bytes begin with these slots, followed by `after`
pub record Begins (bytes : List ℕ) (slots : List Slot) (after : List ℕ) : Type 0 where
  pub each : AllByRecursion IsSlot slots
  pub whole : bytes ≡ flat_map spelled slots ++ after

-- an area's pieces: its bytes are slots and an end, and the list holds the pieces of the slots
pub record IsArea (bytes : List ℕ) (list : List Piece) : Type 0 where
  pub slots : List Slot
  pub after : List ℕ
  pub begins : Begins bytes slots after
  pub ends : IsEnd after
  pub pieces : list ≡ flat_map piece_of slots

-- where an area is cut: an option that is cut off follows whole slots
pub record IsCutAt (bytes : List ℕ) (at : ℕ) : Type 0 where
  pub slots : List Slot
  pub after : List ℕ
  pub begins : Begins bytes slots after
  pub cut : IsCutOption after
  pub place : at ≡ length (flat_map spelled slots)
