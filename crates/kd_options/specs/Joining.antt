-- One more piece joined to the options so far. Proofs tie this step to the joined options; no
-- public contract cites it.
use Rattle.std.specs.Prelude.{◌≡◌, ℕ, Bool, ◌==◌, List, [], ◌∷◌, ◌++◌, if◌then◌else◌, map}
use Rattle.kd_wire.specs.Area.{Piece}
use Rattle.kd_options.specs.Joined.{IsAreaIf, options_of}
use Rattle.kd_options.specs.declared.joining.Value.{Value}
use Rattle.kd_options.specs.declared.joining.Value.TheVariants.{Part, Joined}

-- the bytes of a value, borrowed or owned
abbrev pub bytes_of : Value → List ℕ
bytes_of (Part part) = part.now
bytes_of (Joined content) = content.items

-- the stored options as codes and bytes
abbrev pub entries_of : List (ℕ × Value) → List Piece
entries_of entries = map (λ e. (e.0, bytes_of e.1)) entries

-- the options after one more piece: it goes at the end of its code's value, or becomes a new option
-- after the others
abbrev pub joined_into : ℕ → List ℕ → List Piece → List Piece
joined_into code value [] = (code, value) ∷ []
joined_into code value (o ∷ options) =
    if o.0 == code then (o.0, o.1 ++ value) ∷ options else o ∷ joined_into code value options

-- these pieces were joined to options that were made of any earlier pieces
abbrev pub JoinsPieces : List Piece → List Piece → List Piece → Type 0
JoinsPieces pieces old new =
    (before : List Piece) → old ≡ options_of before → new ≡ options_of (before ++ pieces)

-- the pieces of an area, if it is in use, were joined
pub record JoinsArea (used : Bool) (area : List ℕ) (old new : List Piece) : Type 0 where
  pub pieces : List Piece
  pub is : IsAreaIf used area pieces
  pub joins : JoinsPieces pieces old new
