-- The words in the lines of an explanation; a dash for what is absent.
use Rattle.std.specs.Prelude.{ℕ, ◌==◌, ◌&&◌, not, nat_le, Bool, if◌then◌else◌, List, [], ◌∷◌, ◌++◌, Option, Some, None, codes}
use Rattle.std.specs.List.{flat_map}
use Rattle.hex.specs.Hex.{encode_lower}
use Rattle.kd_text.specs.Text.{address_text, bytes_text}

-- an address
abbrev pub address_word : Option ℕ → List ℕ
address_word None = codes "-"
address_word (Some a) = address_text a

-- the address in a field of the header, unless it is zero
abbrev pub unless_zero : ℕ → Option ℕ
unless_zero a = if a == 0 then None else Some a

-- bytes in hexadecimal
abbrev pub bytes_word : Option (List ℕ) → List ℕ
bytes_word None = codes "-"
bytes_word (Some bytes) = bytes_text bytes

-- a byte of a name: printable ASCII as it is, except the space and the backslash; any other byte as
-- `\x` and two hexadecimal digits
unfoldable pub name_byte : ℕ → List ℕ
name_byte b =
    if nat_le 33 b && (nat_le b 126 && not (b == 92)) then b ∷ []
    else codes "\\x" ++ encode_lower (b ∷ [])

-- the name of a class
abbrev pub name_text : List ℕ → List ℕ
name_text name = flat_map name_byte name

-- a truth value
abbrev pub truth_word : Bool → List ℕ
truth_word value = if value then codes "true" else codes "false"

-- an answer to a question
abbrev pub yes_word : Bool → List ℕ
yes_word holds = if holds then codes "yes" else codes "no"
