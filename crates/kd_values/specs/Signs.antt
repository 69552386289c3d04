-- Flags, message types and text in option data.
use Rattle.std.specs.Prelude.{ℕ, Bool, false, ◌==◌, ◌&&◌, ◌||◌, if◌then◌else◌, List, [], ◌∷◌, Option, Some, None, bytes_eq, codes, find, option_map}
use Rattle.std.specs.Cmp.Lexicographic.{pointwise}
use Rattle.std.specs.Char.{eq_ignore_ascii_case}
use Rattle.kd_names.specs.Values.{message_type_text}
use Rattle.kd_values.specs.Numbers.{number_below}

-- a text is a word, in upper or lower case
abbrev pub is_word : List ℕ → List ℕ → Bool
is_word word text = pointwise eq_ignore_ascii_case word text

-- a flag: true or 1, false or 0
unfoldable pub flag_spelled : List ℕ → Option (List ℕ)
flag_spelled text =
    if is_word (codes "true") text || is_word (codes "1") text then Some (1 ∷ [])
    else if is_word (codes "false") text || is_word (codes "0") text then Some (0 ∷ [])
    else None

-- a text gives a number
abbrev pub is_the_number : ℕ → Option ℕ → Bool
is_the_number n None = false
is_the_number n (Some m) = m == n

-- a text gives a message type: by its number, or by its number and its name as they are printed
abbrev pub gives_type : List ℕ → ℕ → Bool
gives_type text number =
    is_the_number number (number_below 256 text) || bytes_eq text (message_type_text number)

-- a message type (RFC 2132 section 9.6)
unfoldable pub message_type_spelled : List ℕ → Option (List ℕ)
message_type_spelled text =
    option_map (λ n. n ∷ []) (find (gives_type text) (1 ∷ 2 ∷ 3 ∷ 4 ∷ 5 ∷ 6 ∷ 7 ∷ 8 ∷ []))

-- a sign before others, if these can be read
abbrev pub sign_before : ℕ → Option (List ℕ) → Option (List ℕ)
sign_before b others = option_map (λ signs. b ∷ signs) others

-- the signs of a text in which each comma has a backslash before it, without these backslashes
abbrev pub signs_read : List ℕ → Option (List ℕ)
signs_read [] = Some []
signs_read (b ∷ []) = if b == 44 then None else Some (b ∷ [])
signs_read (b ∷ c ∷ text) =
    if b == 92 && c == 44 then sign_before 44 (signs_read text)
    else if b == 44 then None
    else sign_before b (signs_read (c ∷ text))

-- what has one byte or more
abbrev pub if_any : List ℕ → Option (List ℕ)
if_any [] = None
if_any (b ∷ bytes) = Some (b ∷ bytes)
