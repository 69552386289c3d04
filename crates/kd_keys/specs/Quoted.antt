-- Bytes as a text between single quotation marks, or else in hexadecimal: the data of an option
-- that is not read by a type, and the client of a reservation.
use Rattle.std.specs.Prelude.{ℕ, ◌-◌, ◌==◌, nat_eq, nat_le, Bool, ◌&&◌, ◌||◌, List, [], ◌∷◌, codes, drop, length, reverse, take, Option, None, Some, if◌then◌else◌}
use Rattle.std.specs.List.{ends_with, starts_with}
use Rattle.serde_json.specs.Data.{Data}
use Rattle.serde_json.specs.Find.{as_str}
use Rattle.kd_fields.specs.Steps.{must, only_if}
use Rattle.kd_fields.specs.Values.{hex_bytes_in}
use Rattle.kd_keys.specs.Values.{is_whole_text}
use Rattle.kd_values.specs.Signs.{if_any}
use Rattle.kd_wire.specs.Steps.{◌>>=◌}

-- a blank around such a text: a space, tab or line feed
abbrev pub a_blank_here : ℕ → Bool
a_blank_here b = b == 32 || b == 9 || b == 10

-- what follows the blanks that a text begins with
abbrev pub behind_blanks : List ℕ → List ℕ
behind_blanks [] = []
behind_blanks (b ∷ text) = if a_blank_here b then behind_blanks text else b ∷ text

-- a text without the blanks before it and behind it
abbrev pub without_blanks : List ℕ → List ℕ
without_blanks text = reverse (behind_blanks (reverse (behind_blanks text)))

-- a text begins with a quotation mark and ends with another one
abbrev pub is_in_quotes : List ℕ → Bool
is_in_quotes text =
    nat_le 2 (length text) && starts_with nat_eq text (codes "'") && ends_with nat_eq text (codes "'")

-- what is between the first byte of a text and its last
abbrev pub between_ends : List ℕ → List ℕ
between_ends text = take (length text - 2) (drop 1 text)

-- the bytes of a text in quotation marks, without blanks around the marks and inside them; nothing if
-- none are left
unfoldable pub bytes_in_quotes : List ℕ → Option (List ℕ)
bytes_in_quotes text =
    if is_in_quotes (without_blanks text)
    then if_any (without_blanks (between_ends (without_blanks text)))
    else None

-- the bytes that were in quotation marks, or else those of a value in hexadecimal: at most `most`
abbrev pub quoted_or_hex : ℕ → Option (List ℕ) → Data → Option (List ℕ)
quoted_or_hex most (Some bytes) d = only_if (nat_le (length bytes) most) bytes
quoted_or_hex most None d = do
  _ ← must (is_whole_text d)
  hex_bytes_in 0 most d

-- the bytes of a value, in quotation marks or else in hexadecimal: at most `most`
abbrev pub bytes_written : ℕ → Data → Option (List ℕ)
bytes_written most d = quoted_or_hex most (as_str d >>= bytes_in_quotes) d
