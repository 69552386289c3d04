-- The words of a class test (Kea Administrator Reference Manual, chapter Client Classification):
-- which bytes form which token, and how blanks and words make up a text. Bytes are ASCII codes, and
-- a word is the longest that begins at its place.
use Rattle.std.specs.Prelude.{◌≡◌, ℕ, ◌+◌, Bool, true, false, not, ◌&&◌, ◌||◌, ◌==◌, nat_le, List, [], ◌∷◌, ◌++◌, length}
use Rattle.kd_expr.specs.Address.{a_digit, Each, decimal, IsAddress}

-- a token: the place of its first byte, and what it holds
pub data Lexeme : Type 0 where
  StringAt : ℕ → List ℕ → Lexeme
  HexAt : ℕ → List ℕ → Lexeme
  AddressAt : ℕ → List ℕ → Lexeme
  NumberAt : ℕ → ℕ → Lexeme
  MinusAt : ℕ → ℕ → Lexeme
  NameAt : ℕ → List ℕ → Lexeme
  SignAt : ℕ → ℕ → Lexeme
  BadAt : ℕ → Lexeme

-- a space, tab, carriage return or line feed
abbrev pub a_blank : ℕ → Bool
a_blank b = b == 32 || b == 9 || b == 13 || b == 10

-- an ASCII letter
abbrev pub a_letter : ℕ → Bool
a_letter b = (nat_le 65 b && nat_le b 90) || (nat_le 97 b && nat_le b 122)

-- a hexadecimal digit of either case
abbrev pub is_hex_digit : ℕ → Bool
is_hex_digit b = a_digit b || (nat_le 65 b && nat_le b 70) || (nat_le 97 b && nat_le b 102)

-- a byte of a string: neither an apostrophe nor a line feed
abbrev pub in_string : ℕ → Bool
in_string b = not (b == 39 || b == 10)

-- a byte of a run: a digit, letter or dot
abbrev pub in_run : ℕ → Bool
in_run b = a_digit b || a_letter b || b == 46

-- a byte of a name: a letter, digit, underscore or hyphen
abbrev pub in_name : ℕ → Bool
in_name b = a_letter b || a_digit b || b == 95 || b == 45

-- a sign of one byte: a bracket, comma, dot or plus
abbrev pub a_sign : ℕ → Bool
a_sign b = b == 40 || b == 41 || b == 43 || b == 44 || b == 46 || b == 91 || b == 93

-- the letter of a hexadecimal prefix, in either case
abbrev pub is_x : ℕ → Bool
is_x b = b == 120 || b == 88

-- a word ends here: what follows it, if anything, cannot be part of it
abbrev pub WordEnds : (ℕ → Bool) → List ℕ → Type 0
WordEnds p [] = Unit {0}
WordEnds p (b ∷ bytes) = p b ≡ false

-- a word: its place, its bytes, what follows them, and the token that they form
pub data Word : ℕ → List ℕ → List ℕ → Lexeme → Type 0 where
  string_word : {at : ℕ} {s rest : List ℕ} → Each in_string s
      → Word at (39 ∷ (s ++ 39 ∷ [])) rest (StringAt at s)
  hex_word : {at x d : ℕ} {ds rest : List ℕ} → is_x x ≡ true → Each is_hex_digit (d ∷ ds)
      → WordEnds in_run rest → Word at (48 ∷ x ∷ d ∷ ds) rest (HexAt at (d ∷ ds))
  address_word : {at : ℕ} {text a rest : List ℕ} → IsAddress text a → WordEnds in_run rest
      → Word at text rest (AddressAt at a)
  number_word : {at d : ℕ} {ds rest : List ℕ} → Each a_digit (d ∷ ds) → WordEnds in_run rest
      → Word at (d ∷ ds) rest (NumberAt at (decimal (d ∷ ds)))
  minus_word : {at d : ℕ} {ds rest : List ℕ} → Each a_digit (d ∷ ds) → WordEnds in_run rest
      → Word at (45 ∷ d ∷ ds) rest (MinusAt at (decimal (d ∷ ds)))
  name_word : {at c : ℕ} {cs rest : List ℕ} → a_letter c ≡ true → Each in_name cs
      → WordEnds in_name rest → Word at (c ∷ cs) rest (NameAt at (c ∷ cs))
  sign_word : {at b : ℕ} {rest : List ℕ} → a_sign b ≡ true → Word at (b ∷ []) rest (SignAt at b)
  equal_word : {at : ℕ} {rest : List ℕ} → Word at (61 ∷ 61 ∷ []) rest (SignAt at 61)

-- no word begins here
abbrev pub NoWord : ℕ → List ℕ → Type 0
NoWord at bytes = (word rest : List ℕ) (x : Lexeme) → bytes ≡ word ++ rest → Word at word rest x → ⊥

-- a text from a place on: blanks and words, and the tokens of the words; where no word begins, the
-- last token is a bad one
pub data Scans : ℕ → List ℕ → List Lexeme → Type 0 where
  finished : {at : ℕ} → Scans at [] []
  blank : {at b : ℕ} {bytes : List ℕ} {ts : List Lexeme} → a_blank b ≡ true
      → Scans (at + 1) bytes ts → Scans at (b ∷ bytes) ts
  token : {at : ℕ} (word rest : List ℕ) {x : Lexeme} {ts : List Lexeme} → Word at word rest x
      → Scans (at + length word) rest ts → Scans at (word ++ rest) (x ∷ ts)
  bad : {at b : ℕ} {bytes : List ℕ} → a_blank b ≡ false → NoWord at (b ∷ bytes)
      → Scans at (b ∷ bytes) (BadAt at ∷ [])
