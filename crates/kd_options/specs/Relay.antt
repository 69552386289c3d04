-- The sub-options of relay agent information, option 82 (RFC 3046 section 2).
use Rattle.std.specs.Prelude.{◌≡◌, ℕ, not, ◌==◌, List, [], ◌∷◌, length, filter, Option, Some, None, ◌⊎◌}
use Rattle.std.specs.List.{flat_map}
use Rattle.kd_wire.specs.Area.{Piece}

-- the bytes of a sub-option: code, length, value
abbrev pub sub_text : Piece → List ℕ
sub_text p = p.0 ∷ length p.1 ∷ p.1

-- the sub-options of a value: those whose texts, one after another, are the value; if there is no
-- such list, none
abbrev pub IsSubOptions : List ℕ → List Piece → Type 0
IsSubOptions value list =
    (value ≡ flat_map sub_text list)
    ⊎ (((other : List Piece) → value ≡ flat_map sub_text other → ⊥) × (list ≡ []))

-- the sub-options of option 82, which may be absent
abbrev pub IsRelayList : Option (List ℕ) → List Piece → Type 0
IsRelayList None list = list ≡ []
IsRelayList (Some value) list = IsSubOptions value list

-- the first sub-option of each code, in order of appearance
abbrev pub firsts : List Piece → List Piece
firsts [] = []
firsts (p ∷ list) = p ∷ filter (λ q. not (q.0 == p.0)) (firsts list)
