-- The grammar of class tests (Kea Administrator Reference Manual, chapter Client Classification):
-- which tokens form which tree. `or`, `and` and `+` group to the left; number ranges and the limit
-- on nesting are part of the grammar.
use Rattle.std.specs.Prelude.{◌≡◌, ℕ, zero, suc, ◌+◌, ◌*◌, ◌-◌, ◌%◌, ◌^◌, ◌<◌, ◌≤◌, ℤ, pos, negsuc, ◌==◌, ◌&&◌, nat_le, List, [], ◌∷◌, ◌++◌, length, codes, Option, Some, None, if◌then◌else◌}
use Rattle.kd_expr.specs.Lexical.{Lexeme, StringAt, HexAt, AddressAt, NumberAt, MinusAt, NameAt, SignAt, Scans}
use Rattle.kd_expr.specs.Names.{code_by_name, field_by_name}
use Rattle.kd_expr.specs.Tree.{Tree, Literal, Int, OptionValue, RelayValue, FieldValue, OptionExists, RelayExists, Member, Equal, Not, And, Or, Group, Concat, IfElse, Substring, HexString, Lower, Upper, IntToText, at_of}
use Rattle.kd_wire.specs.declared.field.Field.{Field}
use Rattle.kd_wire.specs.declared.field.Field.TheVariants.{Length}

-- `(` at a place
abbrev pub OpenAt : ℕ → Lexeme
OpenAt at = SignAt at 40

-- `)` at a place
abbrev pub CloseAt : ℕ → Lexeme
CloseAt at = SignAt at 41

-- `+` at a place
abbrev pub PlusAt : ℕ → Lexeme
PlusAt at = SignAt at 43

-- `,` at a place
abbrev pub CommaAt : ℕ → Lexeme
CommaAt at = SignAt at 44

-- `.` at a place
abbrev pub DotAt : ℕ → Lexeme
DotAt at = SignAt at 46

-- `==` at a place
abbrev pub EqualAt : ℕ → Lexeme
EqualAt at = SignAt at 61

-- `[` at a place
abbrev pub LeftAt : ℕ → Lexeme
LeftAt at = SignAt at 91

-- `]` at a place
abbrev pub RightAt : ℕ → Lexeme
RightAt at = SignAt at 93

-- the value of a hexadecimal digit of either case, and 0 for another byte
abbrev pub hex_digit_value : ℕ → ℕ
hex_digit_value d =
    if nat_le 48 d && nat_le d 57 then d - 48
    else if nat_le 65 d && nat_le d 70 then d - 55
    else if nat_le 97 d && nat_le d 102 then d - 87
    else 0

-- the bytes of an even number of hexadecimal digits, two digits per byte
abbrev pub hex_pairs : List ℕ → List ℕ
hex_pairs [] = []
hex_pairs (d ∷ []) = []
hex_pairs (d ∷ e ∷ digits) = (16 * hex_digit_value d + hex_digit_value e) ∷ hex_pairs digits

-- the bytes of hexadecimal digits, after a leading 0 if their number is odd
abbrev pub hex_bytes : List ℕ → List ℕ
hex_bytes digits = if length digits % 2 == 1 then hex_pairs (48 ∷ digits) else hex_pairs digits

-- the code of an option: a number up to 255, or a name of the table
pub data IsOptionCode : Lexeme → ℕ → Type 0 where
  code_number : {at code : ℕ} → code < 256 → IsOptionCode (NumberAt at code) code
  code_name : {at code : ℕ} {name : List ℕ} → code_by_name name ≡ Some code
      → IsOptionCode (NameAt at name) code

-- the negative number -n
abbrev pub minus : ℕ → ℤ
minus zero = pos 0
minus (suc n) = negsuc n

-- a 32-bit number, which may have a minus sign before it
pub data IsSigned : Lexeme → ℤ → Type 0 where
  plain : {at n : ℕ} → n < 2 ^ 31 → IsSigned (NumberAt at n) (pos n)
  below : {at n : ℕ} → n ≤ 2 ^ 31 → IsSigned (MinusAt at n) (minus n)

-- the length of a substring: a number as above, or `all`
pub data IsLength : Lexeme → Option ℤ → Type 0 where
  counted : {x : Lexeme} {n : ℤ} → IsSigned x n → IsLength x (Some n)
  whole : {at : ℕ} → IsLength (NameAt at (codes "all")) None

-- the levels of the grammar, from the loosest to the tightest
pub data Level : Type 0 where
  or_level : Level
  and_level : Level
  not_level : Level
  compare_level : Level
  sum_level : Level
  primary_level : Level

-- these tokens form this tree at a level, where n more brackets and `not`s may be nested
pub data Spells : Level → ℕ → List Lexeme → Tree → Type 0 where
  or_one : {n : ℕ} {ts : List Lexeme} {t : Tree} → Spells and_level n ts t → Spells or_level n ts t
  or_more : {n : ℕ} (o : ℕ) {us vs : List Lexeme} {a b : Tree} → Spells or_level n us a
      → Spells and_level n vs b
      → Spells or_level n (us ++ NameAt o (codes "or") ∷ vs) (Or (at_of a) a b)
  and_one : {n : ℕ} {ts : List Lexeme} {t : Tree} → Spells not_level n ts t
      → Spells and_level n ts t
  and_more : {n : ℕ} (o : ℕ) {us vs : List Lexeme} {a b : Tree} → Spells and_level n us a
      → Spells not_level n vs b
      → Spells and_level n (us ++ NameAt o (codes "and") ∷ vs) (And (at_of a) a b)
  not_none : {n : ℕ} {ts : List Lexeme} {t : Tree} → Spells compare_level n ts t
      → Spells not_level n ts t
  negated : {n at : ℕ} {ts : List Lexeme} {t : Tree} → Spells not_level n ts t
      → Spells not_level (suc n) (NameAt at (codes "not") ∷ ts) (Not at t)
  compare_one : {n : ℕ} {ts : List Lexeme} {t : Tree} → Spells sum_level n ts t
      → Spells compare_level n ts t
  equal : {n : ℕ} (o : ℕ) {us vs : List Lexeme} {a b : Tree} → Spells sum_level n us a
      → Spells sum_level n vs b
      → Spells compare_level n (us ++ EqualAt o ∷ vs) (Equal (at_of a) a b)
  sum_one : {n : ℕ} {ts : List Lexeme} {t : Tree} → Spells primary_level n ts t
      → Spells sum_level n ts t
  sum_more : {n : ℕ} (o : ℕ) {us vs : List Lexeme} {a b : Tree} → Spells sum_level n us a
      → Spells primary_level n vs b
      → Spells sum_level n (us ++ PlusAt o ∷ vs) (Concat (at_of a) a b)
  string : {n at : ℕ} {s : List ℕ} → Spells primary_level n (StringAt at s ∷ []) (Literal at s)
  hexadecimal : {n at : ℕ} {digits : List ℕ}
      → Spells primary_level n (HexAt at digits ∷ []) (Literal at (hex_bytes digits))
  address : {n at : ℕ} {bytes : List ℕ}
      → Spells primary_level n (AddressAt at bytes ∷ []) (Literal at bytes)
  number : {n at k : ℕ} → k < 2 ^ 32 → Spells primary_level n (NumberAt at k ∷ []) (Int at k)
  group : {n at : ℕ} (c : ℕ) {ts : List Lexeme} {t : Tree} → Spells or_level n ts t
      → Spells primary_level (suc n) (OpenAt at ∷ (ts ++ CloseAt c ∷ [])) (Group at t)
  option_hex : {n at l r d e code : ℕ} {x : Lexeme} → IsOptionCode x code
      → Spells primary_level n
      (NameAt at (codes "option") ∷ LeftAt l ∷ x ∷ RightAt r ∷ DotAt d ∷ NameAt e (codes "hex")
      ∷ []) (OptionValue at code)
  option_exists : {n at l r d e code : ℕ} {x : Lexeme} → IsOptionCode x code
      → Spells primary_level n
      (NameAt at (codes "option") ∷ LeftAt l ∷ x ∷ RightAt r ∷ DotAt d ∷ NameAt e (codes "exists")
      ∷ []) (OptionExists at code)
  relay_hex : {n at l k r d e code : ℕ} → code < 256
      → Spells primary_level n
      (NameAt at (codes "relay4") ∷ LeftAt l ∷ NumberAt k code ∷ RightAt r ∷ DotAt d
      ∷ NameAt e (codes "hex") ∷ []) (RelayValue at code)
  relay_exists : {n at l k r d e code : ℕ} → code < 256
      → Spells primary_level n
      (NameAt at (codes "relay4") ∷ LeftAt l ∷ NumberAt k code ∷ RightAt r ∷ DotAt d
      ∷ NameAt e (codes "exists") ∷ []) (RelayExists at code)
  field : {n at d e : ℕ} {name : List ℕ} {part : Field} → field_by_name name ≡ Some part
      → Spells primary_level n (NameAt at (codes "pkt4") ∷ DotAt d ∷ NameAt e name ∷ [])
      (FieldValue at part)
  packet_length : {n at d e : ℕ}
      → Spells primary_level n (NameAt at (codes "pkt") ∷ DotAt d ∷ NameAt e (codes "len") ∷ [])
      (FieldValue at Length)
  member : {n at o k c : ℕ} {name : List ℕ} → 1 ≤ length name → length name ≤ 255
      → Spells primary_level (suc n)
      (NameAt at (codes "member") ∷ OpenAt o ∷ StringAt k name ∷ CloseAt c ∷ []) (Member at name)
  substring : {n at o : ℕ} (c d e : ℕ) {us : List Lexeme} {x y : Lexeme} {a : Tree} {start : ℤ}
      {len : Option ℤ} → Spells or_level n us a → IsSigned x start → IsLength y len
      → Spells primary_level (suc n)
      (NameAt at (codes "substring") ∷ OpenAt o
      ∷ (us ++ CommaAt c ∷ x ∷ CommaAt d ∷ y ∷ CloseAt e ∷ [])) (Substring at a start len)
  concat : {n at o : ℕ} (c d : ℕ) {us vs : List Lexeme} {a b : Tree} → Spells or_level n us a
      → Spells or_level n vs b
      → Spells primary_level (suc n)
      (NameAt at (codes "concat") ∷ OpenAt o ∷ (us ++ CommaAt c ∷ (vs ++ CloseAt d ∷ [])))
      (Concat at a b)
  ifelse : {n at o : ℕ} (c d e : ℕ) {us vs ws : List Lexeme} {a b t : Tree} → Spells or_level n us t
      → Spells or_level n vs a → Spells or_level n ws b
      → Spells primary_level (suc n)
      (NameAt at (codes "ifelse") ∷ OpenAt o
      ∷ (us ++ CommaAt c ∷ (vs ++ CommaAt d ∷ (ws ++ CloseAt e ∷ [])))) (IfElse at t a b)
  hexstring : {n at o : ℕ} (c d : ℕ) {us vs : List Lexeme} {a b : Tree} → Spells or_level n us a
      → Spells or_level n vs b
      → Spells primary_level (suc n)
      (NameAt at (codes "hexstring") ∷ OpenAt o ∷ (us ++ CommaAt c ∷ (vs ++ CloseAt d ∷ [])))
      (HexString at a b)
  lcase : {n at o : ℕ} (c : ℕ) {us : List Lexeme} {a : Tree} → Spells or_level n us a
      → Spells primary_level (suc n) (NameAt at (codes "lcase") ∷ OpenAt o ∷ (us ++ CloseAt c ∷ []))
      (Lower at a)
  ucase : {n at o : ℕ} (c : ℕ) {us : List Lexeme} {a : Tree} → Spells or_level n us a
      → Spells primary_level (suc n) (NameAt at (codes "ucase") ∷ OpenAt o ∷ (us ++ CloseAt c ∷ []))
      (Upper at a)
  uint32totext : {n at o : ℕ} (c : ℕ) {us : List Lexeme} {a : Tree} → Spells or_level n us a
      → Spells primary_level (suc n)
      (NameAt at (codes "uint32totext") ∷ OpenAt o ∷ (us ++ CloseAt c ∷ [])) (IntToText at a)

-- a text of at most 4,096 bytes is the text of a tree: its words are tokens that form the tree,
-- nested at most 64 deep
pub record Parses (text : List ℕ) (t : Tree) : Type 0 where
  pub short : length text ≤ 4096
  pub tokens : List Lexeme
  pub scanned : Scans 0 text tokens
  pub spelled : Spells or_level 64 tokens t

-- some text has this tree
pub record HasText (t : Tree) : Type 0 where
  pub text : List ℕ
  pub parses : Parses text t
