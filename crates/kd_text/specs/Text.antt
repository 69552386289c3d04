-- How addresses, prefixes and bytes are written. A number is written in decimal, as std's `decimal`
-- says.
use Rattle.std.specs.Prelude.{ℕ, ◌/◌, ◌%◌, ◌^◌, List, [], ◌∷◌, ◌++◌, codes, decimal}
use Rattle.hex.specs.Hex.{encode_lower}

-- an address: its four bytes in decimal, with dots between them
abbrev pub address_text : ℕ → List ℕ
address_text a =
    decimal (a / 2 ^ 24) ++ codes "." ++ decimal (a / 2 ^ 16 % 256) ++ codes "."
    ++ decimal (a / 2 ^ 8 % 256) ++ codes "." ++ decimal (a % 256)

-- a prefix: its address, a slash, its length in bits
unfoldable pub prefix_text : ℕ → ℕ → List ℕ
prefix_text a bits = address_text a ++ codes "/" ++ decimal bits

-- bytes in lower-case hexadecimal; a dash if there are none
abbrev pub bytes_text : List ℕ → List ℕ
bytes_text [] = codes "-"
bytes_text (b ∷ bytes) = encode_lower (b ∷ bytes)
