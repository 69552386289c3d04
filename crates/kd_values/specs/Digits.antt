-- Bytes in option data: hexadecimal digits, two a byte, perhaps after 0x; spaces and colons between
-- them do not count.
use Rattle.std.specs.Prelude.{ℕ, Bool, not, ◌&&◌, ◌||◌, ◌==◌, if◌then◌else◌, List, ◌∷◌, Option, option_and_then}
use Rattle.std.specs.Result.{result_ok}
use Rattle.std.specs.List.{filter}
use Rattle.hex.specs.Hex.{decode_of}
use Rattle.kd_values.specs.Signs.{if_any}

-- a byte that counts: neither a space nor a colon
abbrev pub is_no_separator : ℕ → Bool
is_no_separator b = not (b == 32 || b == 58)

-- digits without 0x before them
abbrev pub digits_behind_0x : List ℕ → List ℕ
digits_behind_0x (a ∷ b ∷ digits) =
    if a == 48 && (b == 120 || b == 88) then digits else a ∷ b ∷ digits
digits_behind_0x digits = digits

-- one or more bytes in hexadecimal
unfoldable pub hexadecimal_spelled : List ℕ → Option (List ℕ)
hexadecimal_spelled text =
    option_and_then if_any (result_ok (decode_of (digits_behind_0x (filter is_no_separator text))))
