-- Hexadecimal texts: spaces and colons are ignored, and the prefix 0x may precede the digits.
use Rattle.std.specs.Prelude.{ℕ, Bool, not, ◌&&◌, ◌||◌, ◌==◌, if◌then◌else◌, List, ◌∷◌, Option}
use Rattle.std.specs.Result.{result_ok}
use Rattle.std.specs.List.{filter}
use Rattle.hex.specs.Hex.{decode_of}

-- a byte that is not ignored: neither a space nor a colon
abbrev pub counts : ℕ → Bool
counts b = not (b == 32 || b == 58)

-- digits without the prefix 0x
abbrev pub digits_after_prefix : List ℕ → List ℕ
digits_after_prefix (a ∷ b ∷ digits) =
    if a == 48 && (b == 120 || b == 88) then digits else a ∷ b ∷ digits
digits_after_prefix text = text

-- the bytes that a hexadecimal text gives
unfoldable pub bytes_spelled : List ℕ → Option (List ℕ)
bytes_spelled text = result_ok (decode_of (digits_after_prefix (filter counts text)))
