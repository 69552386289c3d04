-- Which fault a text that is not an expression has, and where. Some expression begins with the
-- tokens before the fault's place, and none with those and the token there.
use Rattle.std.specs.Prelude.{◌≡◌, ℕ, Bool, true, false, List, [], ◌∷◌, ◌++◌, length, codes, Some}
use Rattle.kd_expr.specs.Grammar.{Spells, or_level, OpenAt}
use Rattle.kd_expr.specs.Lexical.{Lexeme, StringAt, HexAt, AddressAt, NumberAt, MinusAt, NameAt, SignAt, BadAt, Scans}
use Rattle.kd_expr.specs.Names.{code_by_name}
use Rattle.kd_expr.specs.Tree.{Tree}
use Rattle.kd_expr.specs.declared.fault.ExprFault.{ExprFault}
use Rattle.kd_expr.specs.declared.fault.ExprFault.TheVariants as faults

-- the place of a token's first byte
abbrev pub token_place : Lexeme → ℕ
token_place (StringAt at bytes) = at
token_place (HexAt at digits) = at
token_place (AddressAt at bytes) = at
token_place (NumberAt at number) = at
token_place (MinusAt at number) = at
token_place (NameAt at name) = at
token_place (SignAt at byte) = at
token_place (BadAt at) = at

-- no word begins at the token's place
abbrev pub is_bad : Lexeme → Bool
is_bad (BadAt at) = true
is_bad token = false

-- some expression begins with these tokens; it may be nested one level deeper than a text's,
-- because the name of a form may come at the deepest nesting while the bracket after it may not
abbrev pub BeginsSome : List Lexeme → Type 0
BeginsSome ts = (more : List Lexeme) × (tree : Tree) × Spells or_level 65 (ts ++ more) tree

-- no expression that is nested at most n deep begins with these tokens
abbrev pub BeginsNoneWithin : ℕ → List Lexeme → Type 0
BeginsNoneWithin n ts = (more : List Lexeme) (tree : Tree) → Spells or_level n (ts ++ more) tree → ⊥

-- no expression begins with these tokens, however deep it is nested
abbrev pub BeginsNever : List Lexeme → Type 0
BeginsNever ts = (n : ℕ) → BeginsNoneWithin n ts

-- a token, or another of its kind at its place: another number, or the name of an option for a name
pub data IsLike : Lexeme → Lexeme → Type 0 where
  itself : {x : Lexeme} → IsLike x x
  another_number : {at k m : ℕ} → IsLike (NumberAt at k) (NumberAt at m)
  another_below_zero : {at k m : ℕ} → IsLike (MinusAt at k) (MinusAt at m)
  an_option : {at : ℕ} {name known : List ℕ} (code : ℕ) → code_by_name known ≡ Some code
      → IsLike (NameAt at name) (NameAt at known)

-- a token that nests what follows it: a bracket, or `not`
pub data IsNesting : Lexeme → Type 0 where
  bracket : {at : ℕ} → IsNesting (OpenAt at)
  negation : {at : ℕ} → IsNesting (NameAt at (codes "not"))

-- the fault of the token after these
pub data IsTokenFault (before : List Lexeme) : Lexeme → ExprFault → Type 0 where
  bad_token : {at : ℕ} → BeginsNever (before ++ BadAt at ∷ [])
      → IsTokenFault before (BadAt at) (faults.BadToken at)
  unexpected : {x : Lexeme} → is_bad x ≡ false
      → ((y : Lexeme) → IsLike x y → BeginsNever (before ++ y ∷ []))
      → IsTokenFault before x (faults.Expected (token_place x))
  too_large : {at k : ℕ} (m : ℕ) → BeginsNever (before ++ NumberAt at k ∷ [])
      → BeginsSome (before ++ NumberAt at m ∷ [])
      → IsTokenFault before (NumberAt at k) (faults.NumberTooLarge at)
  too_low : {at k : ℕ} (m : ℕ) → BeginsNever (before ++ MinusAt at k ∷ [])
      → BeginsSome (before ++ MinusAt at m ∷ [])
      → IsTokenFault before (MinusAt at k) (faults.NumberTooLarge at)
  unknown : {at : ℕ} {name : List ℕ} (code : ℕ) (known : List ℕ)
      → BeginsNever (before ++ NameAt at name ∷ []) → code_by_name known ≡ Some code
      → BeginsSome (before ++ NameAt at known ∷ [])
      → IsTokenFault before (NameAt at name) (faults.UnknownName at)
  nested : {x : Lexeme} → IsNesting x → BeginsNoneWithin 64 (before ++ x ∷ [])
      → BeginsSome (before ++ x ∷ []) → IsTokenFault before x (faults.TooNested (token_place x))

-- the fault of the remaining tokens after these, if the text ends at a place
abbrev pub IsFaultAfter : List Lexeme → List Lexeme → ℕ → ExprFault → Type 0
IsFaultAfter before [] end fault =
    ((n : ℕ) (tree : Tree) → Spells or_level n before tree → ⊥) × (fault ≡ faults.Expected end)
IsFaultAfter before (x ∷ after) end fault = IsTokenFault before x fault

-- the first fault of a text that is not an expression
pub record IsTextFault (text : List ℕ) (fault : ExprFault) : Type 0 where
  pub tokens : List Lexeme
  pub scanned : Scans 0 text tokens
  pub before : List Lexeme
  pub left : List Lexeme
  pub parts : tokens ≡ before ++ left
  pub begins : BeginsSome before
  pub is : IsFaultAfter before left (length text) fault
