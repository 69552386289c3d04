-- The options of a datagram: the areas in use (RFC 2131 section 4.1, RFC 2132 section 9.3) and the
-- joining of their pieces (RFC 3396 sections 5 to 7).
use Rattle.std.specs.Prelude.{◌≡◌, ℕ, Bool, true, false, not, ◌==◌, ◌||◌, nat_eq, List, [], ◌∷◌, ◌++◌, Option, Some, None, drop, filter, map}
use Rattle.std.specs.List.{flat_map}
use Rattle.std.specs.Map.{lookup}
use Rattle.kd_wire.specs.Area.{Piece, IsArea}
use Rattle.kd_wire.specs.Header.{bytes_at}

-- the value of a code: its pieces one after another
abbrev pub joined : ℕ → List Piece → List ℕ
joined code pieces = flat_map (λ p. p.1) (filter (λ p. p.0 == code) pieces)

-- the codes that have a piece, in order of first appearance
abbrev pub codes : List Piece → List ℕ
codes [] = []
codes (p ∷ pieces) = p.0 ∷ filter (λ code. not (code == p.0)) (codes pieces)

-- the options that pieces make: each code with its value, in order of first appearance
abbrev pub options_of : List Piece → List Piece
options_of pieces = map (λ code. (code, joined code pieces)) (codes pieces)

-- the value of an option, if it is present
abbrev pub value_of : ℕ → List Piece → Option (List ℕ)
value_of code options = lookup (nat_eq code) options

-- the options field: what follows header and cookie
abbrev pub options_field : List ℕ → List ℕ
options_field bytes = drop 240 bytes

-- the field for the boot file's name
abbrev pub file_field : List ℕ → List ℕ
file_field bytes = bytes_at 108 128 bytes

-- the field for the server's name
abbrev pub sname_field : List ℕ → List ℕ
sname_field bytes = bytes_at 44 64 bytes

-- option 52 puts options into the file field: it is one byte, 1 or 3
abbrev pub uses_file : Option (List ℕ) → Bool
uses_file None = false
uses_file (Some []) = false
uses_file (Some (b ∷ [])) = b == 1 || b == 3
uses_file (Some (b ∷ c ∷ bytes)) = false

-- option 52 puts options into the sname field: it is one byte, 2 or 3
abbrev pub uses_sname : Option (List ℕ) → Bool
uses_sname None = false
uses_sname (Some []) = false
uses_sname (Some (b ∷ [])) = b == 2 || b == 3
uses_sname (Some (b ∷ c ∷ bytes)) = false

-- an area in use has its pieces, and one that is not in use has none
abbrev pub IsAreaIf : Bool → List ℕ → List Piece → Type 0
IsAreaIf true area pieces = IsArea area pieces
IsAreaIf false area pieces = pieces ≡ []

-- the pieces of all areas in use, in the order options field, file, sname; option 52 of the options
-- field alone says whether file and sname are in use
pub record AreasInUse (bytes : List ℕ) (pieces : List Piece) : Type 0 where
  pub field : List Piece
  pub file : List Piece
  pub sname : List Piece
  pub field_is : IsArea (options_field bytes) field
  pub file_is : IsAreaIf (uses_file (value_of 52 (options_of field))) (file_field bytes) file
  pub sname_is : IsAreaIf (uses_sname (value_of 52 (options_of field))) (sname_field bytes) sname
  pub in_order : pieces ≡ field ++ file ++ sname

-- the options of a datagram: the joined pieces of its areas in use
pub record HasOptions (bytes : List ℕ) (options : List Piece) : Type 0 where
  pub pieces : List Piece
  pub in_use : AreasInUse bytes pieces
  pub joins : options ≡ options_of pieces
