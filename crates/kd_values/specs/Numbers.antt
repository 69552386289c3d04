-- Numbers in option data: decimal digits, or hexadecimal ones after 0x, perhaps behind a plus sign. In an option a number has
-- one, two or four bytes, the highest first (RFC 2132 section 2).
use Rattle.std.specs.Prelude.{ℕ, ◌+◌, ◌-◌, ◌*◌, ◌%◌, ◌^◌, ◌==◌, ◌&&◌, ◌||◌, nat_lt, if◌then◌else◌, List, [], ◌∷◌, Option, Some, None, length, option_and_then, option_map}
use Rattle.std.specs.Int.{to_be_bytes, w16, w32}
use Rattle.hex.specs.Hex.{hex_digit_value}
use Rattle.kd_wire.specs.Steps.{◌>>=◌}

-- the value of a digit of a base, which is at most 16
abbrev pub digit_in : ℕ → ℕ → Option ℕ
digit_in base c = do
  d ← hex_digit_value c
  if nat_lt d base then Some d else None

-- the number that digits of a base give after digits that give n
abbrev pub number_behind : ℕ → ℕ → List ℕ → Option ℕ
number_behind base n [] = Some n
number_behind base n (c ∷ digits) = do
  d ← digit_in base c
  number_behind base (base * n + d) digits

-- a number, if it is below a limit
abbrev pub if_below : ℕ → Option ℕ → Option ℕ
if_below limit number = option_and_then (λ n. if nat_lt n limit then Some n else None) number

-- the number of one or more digits of a base, if it is below a limit
unfoldable pub based_number : ℕ → ℕ → List ℕ → Option ℕ
based_number base limit digits =
    if length digits == 0 then None else if_below limit (number_behind base 0 digits)

-- the number of decimal digits, or of hexadecimal digits after 0x, if it is below a limit
abbrev pub number_below : ℕ → List ℕ → Option ℕ
number_below limit (a ∷ b ∷ digits) =
    if a == 48 && (b == 120 || b == 88) then based_number 16 limit digits
    else based_number 10 limit (a ∷ b ∷ digits)
number_below limit text = based_number 10 limit text

-- a text without the plus sign that it may begin with
abbrev pub without_plus : List ℕ → List ℕ
without_plus [] = []
without_plus (b ∷ text) = if b == 43 then text else b ∷ text

-- the number that a text gives, perhaps behind a plus sign, if it is below a limit
abbrev pub number_given : ℕ → List ℕ → Option ℕ
number_given limit text = number_below limit (without_plus text)

-- a number of one byte
abbrev pub one_byte_spelled : List ℕ → Option (List ℕ)
one_byte_spelled text = option_map (λ n. n ∷ []) (number_given 256 text)

-- a number of two bytes
abbrev pub two_bytes_spelled : List ℕ → Option (List ℕ)
two_bytes_spelled text = option_map (to_be_bytes w16) (number_given (2 ^ 16) text)

-- a number of four bytes
abbrev pub four_bytes_spelled : List ℕ → Option (List ℕ)
four_bytes_spelled text = option_map (to_be_bytes w32) (number_given (2 ^ 32) text)

-- a number from -half up to half - 1 in two's complement, where there are twice half numbers; a
-- negative one is decimal digits after a minus sign
abbrev pub signed_number : ℕ → List ℕ → Option ℕ
signed_number half (b ∷ digits) =
    if b == 45 then option_map (λ n. (2 * half - n) % (2 * half)) (based_number 10 (half + 1) digits)
    else number_given half (b ∷ digits)
signed_number half text = number_given half text

-- a number of one byte in two's complement
abbrev pub signed_byte_spelled : List ℕ → Option (List ℕ)
signed_byte_spelled text = option_map (λ n. n ∷ []) (signed_number (2 ^ 7) text)

-- a number of two bytes in two's complement
abbrev pub signed_short_spelled : List ℕ → Option (List ℕ)
signed_short_spelled text = option_map (to_be_bytes w16) (signed_number (2 ^ 15) text)

-- a number of four bytes in two's complement
abbrev pub signed_spelled : List ℕ → Option (List ℕ)
signed_spelled text = option_map (to_be_bytes w32) (signed_number (2 ^ 31) text)
