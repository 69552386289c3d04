-- The lexer, computed: which word bytes begin with, and which tokens a text has. Proofs tie it to
-- the definition of words. Public contracts cite only `address_read` of it, the address that a text
-- gives: by the clauses of `read_address` this is the one of `IsAddress` (`Address.antt`) if there
-- is one, and otherwise there is none. kd_values uses `behind_of` to say what follows blanks.
use Rattle.std.specs.Prelude.{ℕ, zero, suc, ◌+◌, ◌-◌, Bool, true, false, ◌&&◌, ◌==◌, nat_le, List, [], ◌∷◌, length, Option, Some, None, if◌then◌else◌}
use Rattle.kd_expr.specs.Address.{a_digit, decimal}
use Rattle.kd_expr.specs.Lexical.{Lexeme, StringAt, HexAt, AddressAt, NumberAt, MinusAt, NameAt, SignAt, BadAt, a_blank, a_letter, is_hex_digit, a_sign, is_x, in_string, in_run, in_name}
use Rattle.kd_expr.specs.Reading.{and_then, or_else}
use Rattle.kd_expr.specs.declared.class.Class.{Class}
use Rattle.kd_expr.specs.declared.class.Class.TheVariants as classes

-- the test of a class of bytes
abbrev pub class_test : Class → ℕ → Bool
class_test classes.Digit = a_digit
class_test classes.HexDigit = is_hex_digit
class_test classes.InRun = in_run
class_test classes.InName = in_name
class_test classes.InString = in_string

-- the first bytes that pass a test
abbrev pub front_of : (ℕ → Bool) → List ℕ → List ℕ
front_of p [] = []
front_of p (b ∷ bytes) = if p b then b ∷ front_of p bytes else []

-- what follows the first bytes that pass a test
abbrev pub behind_of : (ℕ → Bool) → List ℕ → List ℕ
behind_of p [] = []
behind_of p (b ∷ bytes) = if p b then behind_of p bytes else b ∷ bytes

-- there are no bytes
abbrev pub is_empty : List ℕ → Bool
is_empty [] = true
is_empty (b ∷ bytes) = false

-- every byte passes a test
abbrev pub all_pass : (ℕ → Bool) → List ℕ → Bool
all_pass p bytes = is_empty (behind_of p bytes)

-- the number of the first digits, as a part of an address, and what follows
unfoldable pub part_at_front : List ℕ → Option (ℕ × List ℕ)
part_at_front text =
    if nat_le 1 (length (front_of a_digit text)) && nat_le (length (front_of a_digit text)) 3
    && nat_le (decimal (front_of a_digit text)) 255
    then Some (decimal (front_of a_digit text), behind_of a_digit text)
    else None

-- the same after a dot
unfoldable pub part_after_dot : List ℕ → Option (ℕ × List ℕ)
part_after_dot [] = None
part_after_dot (b ∷ text) = if b == 46 then part_at_front text else None

-- the four bytes of an address
unfoldable pub address_read : List ℕ → Option (List ℕ)
address_read text =
    and_then (part_at_front text)
    (λ a. and_then (part_after_dot a.1)
    (λ b. and_then (part_after_dot b.1) (λ c. and_then (part_after_dot c.1) (λ d.
    if is_empty d.1 then Some (a.0 ∷ b.0 ∷ c.0 ∷ d.0 ∷ []) else None))))

-- the digits after a hexadecimal prefix
unfoldable pub digits_after_0x : List ℕ → Option (List ℕ)
digits_after_0x [] = None
digits_after_0x (z ∷ []) = None
digits_after_0x (z ∷ x ∷ ds) =
    if (z == 48 && is_x x)
    && (nat_le 1 (length ds) && all_pass is_hex_digit ds) then Some ds else None

-- the token of a run
unfoldable pub token_of_run : ℕ → List ℕ → Option Lexeme
token_of_run at run =
    if all_pass a_digit run then Some (NumberAt at (decimal run))
    else or_else (digits_after_0x run) (λ digits. Some (HexAt at digits))
    (and_then (address_read run) (λ a. Some (AddressAt at a)))

-- a run and what follows it
unfoldable pub run_cut : ℕ → List ℕ → Option (Lexeme × List ℕ)
run_cut at bytes =
    and_then (token_of_run at (front_of in_run bytes)) (λ x. Some (x, behind_of in_run bytes))

-- a string of these bytes, if an apostrophe follows them
abbrev pub closed : ℕ → List ℕ → List ℕ → Option (Lexeme × List ℕ)
closed at s [] = None
closed at s (b ∷ rest) = if b == 39 then Some (StringAt at s, rest) else None

-- a string after its apostrophe, and what follows it
unfoldable pub string_cut : ℕ → List ℕ → Option (Lexeme × List ℕ)
string_cut at bytes = closed at (front_of in_string bytes) (behind_of in_string bytes)

-- the token of a run after a minus sign
abbrev pub minus_token : ℕ → List ℕ → Option Lexeme
minus_token at run =
    if nat_le 1 (length run) && all_pass a_digit run then Some (MinusAt at (decimal run)) else None

-- a number after its minus sign, and what follows it
unfoldable pub minus_cut : ℕ → List ℕ → Option (Lexeme × List ℕ)
minus_cut at bytes =
    and_then (minus_token at (front_of in_run bytes)) (λ x. Some (x, behind_of in_run bytes))

-- a name whose first byte is known to be a letter, and what follows it
unfoldable pub name_cut : ℕ → List ℕ → Option (Lexeme × List ℕ)
name_cut at bytes = Some (NameAt at (front_of in_name bytes), behind_of in_name bytes)

-- an equality sign after its first byte, and what follows it
unfoldable pub equal_cut : ℕ → List ℕ → Option (Lexeme × List ℕ)
equal_cut at [] = None
equal_cut at (b ∷ rest) = if b == 61 then Some (SignAt at 61, rest) else None

-- the word that bytes begin with, and what follows it
unfoldable pub cut : ℕ → List ℕ → Option (Lexeme × List ℕ)
cut at [] = None
cut at (b ∷ bytes) =
    if b == 39 then string_cut at bytes
    else if a_digit b then run_cut at (b ∷ bytes)
    else if b == 45 then minus_cut at bytes
    else if a_letter b then name_cut at (b ∷ bytes)
    else if b == 61 then equal_cut at bytes
    else if a_sign b then Some (SignAt at b, bytes)
    else None

-- the tokens of bytes, in at most k blanks and words; the last is bad if no word begins at its
-- place
unfoldable pub tokens_from : ℕ → ℕ → List ℕ → List Lexeme
tokens_from k at [] = []
tokens_from zero at (b ∷ bytes) = []
tokens_from (suc k) at (b ∷ bytes) =
    if a_blank b then tokens_from k (at + 1) bytes
    else elim (cut at (b ∷ bytes)) [
      | None ↦ BadAt at ∷ []
      | Some x ↦ x.0 ∷ tokens_from k (at + (length (b ∷ bytes) - length x.1)) x.1
    ]
