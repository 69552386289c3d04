-- The reader of tokens, computed: which tree tokens begin with and what remains after it, or the
-- fault. Proofs tie it to the grammar; no public contract cites it.
use Rattle.std.specs.Prelude.{ℕ, zero, suc, ◌^◌, ℤ, pos, Bool, true, false, ◌&&◌, ◌==◌, nat_lt, nat_le, List, [], ◌∷◌, length, codes, bytes_eq, Option, Some, None, Result, Ok, Err, if◌then◌else◌}
use Rattle.kd_expr.specs.Grammar.{hex_bytes, minus}
use Rattle.kd_expr.specs.Lexical.{Lexeme, StringAt, HexAt, AddressAt, NumberAt, MinusAt, NameAt, SignAt, BadAt}
use Rattle.kd_expr.specs.Names.{code_by_name, field_by_name}
use Rattle.kd_expr.specs.Refusals.{refused_at, refusal_of, code_refusal, option_refusal, signed_refusal}
use Rattle.kd_expr.specs.Tree.{Tree, Literal, Int, OptionValue, RelayValue, FieldValue, OptionExists, RelayExists, Member, Equal, Not, And, Or, Group, Concat, IfElse, Substring, HexString, Lower, Upper, IntToText, at_of}
use Rattle.kd_wire.specs.declared.field.Field.{Field}
use Rattle.kd_wire.specs.declared.field.Field.TheVariants.{Length}
use Rattle.kd_expr.specs.declared.fault.SyntaxFault.{SyntaxFault}
use Rattle.kd_expr.specs.declared.fault.SyntaxFault.TheVariants as faults

-- what tokens begin with and what remains, or the fault; the end of the text is known
abbrev pub Reader : Type 0 → Type 0
Reader A = ℕ → List Lexeme → Result (A × List Lexeme) SyntaxFault

-- the second, made from what the first gives, if it gives anything
abbrev pub and_then : {A B : Type 0} → Option A → (A → Option B) → Option B
and_then None f = None
and_then (Some a) f = f a

-- the second, made from what the first gives, or another if it gives nothing
abbrev pub or_else : {A B : Type 0} → Option A → (A → B) → B → B
or_else None f other = other
or_else (Some a) f other = f a

-- the second, made from what the first gives, or the fault of the first
abbrev pub on_ok : {A B : Type 0} → Result A SyntaxFault → (A → Result B SyntaxFault)
    → Result B SyntaxFault
on_ok (Err fault) f = Err fault
on_ok (Ok a) f = f a

-- reads nothing
abbrev pub done : {A : Type 0} → A → Reader A
done a end ts = Ok (a, ts)

-- one after another
abbrev pub seq : {A B : Type 0} → Reader A → (A → Reader B) → Reader B
seq r f end ts = on_ok (r end ts) (λ x. f x.0 end x.1)

-- the first token, if it is of a kind
abbrev pub one : {A : Type 0} → (Lexeme → Option A) → List Lexeme → Option (A × List Lexeme)
one f [] = None
one f (x ∷ ts) = and_then (f x) (λ a. Some (a, ts))

-- one token of a kind and what is made from it, or otherwise the other
abbrev pub either : {A B : Type 0} → (Lexeme → Option A) → (A → Reader B) → Reader B → Reader B
either test f other end ts = or_else (one test ts) (λ x. f x.0 end x.1) (other end ts)

-- one token of a kind, which must come next
abbrev pub wanted : {A : Type 0} → (Lexeme → Option A) → (Lexeme → SyntaxFault) → Reader A
wanted test refusal end ts = or_else (one test ts) (λ x. Ok x) (Err (refused_at refusal ts end))

-- the place of this sign
abbrev pub sign_at : ℕ → Lexeme → Option ℕ
sign_at b (SignAt at c) = if c == b then Some at else None
sign_at b _ = None

-- the place of this keyword
abbrev pub word_at : List ℕ → Lexeme → Option ℕ
word_at w (NameAt at v) = if bytes_eq v w then Some at else None
word_at w _ = None

-- this sign
abbrev pub sign_here : ℕ → Reader ℕ
sign_here b = wanted (sign_at b) refusal_of

-- this keyword
abbrev pub word_here : List ℕ → Reader ℕ
word_here w = wanted (word_at w) refusal_of

-- the code of an option
abbrev pub code_of_option : Lexeme → Option ℕ
code_of_option (NumberAt at n) = if nat_lt n 256 then Some n else None
code_of_option (NameAt at name) = code_by_name name
code_of_option _ = None

-- the code of a sub-option
abbrev pub code_of_relay : Lexeme → Option ℕ
code_of_relay (NumberAt at n) = if nat_lt n 256 then Some n else None
code_of_relay _ = None

-- whether `exists` comes there, or `hex`
abbrev pub suffix_of : Lexeme → Option Bool
suffix_of (NameAt at name) =
    if bytes_eq name (codes "hex") then Some false
    else if bytes_eq name (codes "exists") then Some true
    else None
suffix_of _ = None

-- the message field that a name means
abbrev pub field_of : Lexeme → Option Field
field_of (NameAt at name) = field_by_name name
field_of _ = None

-- a 32-bit number, which may have a minus sign before it
abbrev pub signed : Lexeme → Option ℤ
signed (NumberAt at n) = if nat_lt n (2 ^ 31) then Some (pos n) else None
signed (MinusAt at n) = if nat_le n (2 ^ 31) then Some (minus n) else None
signed _ = None

-- the length of a substring
abbrev pub length_of_part : Lexeme → Option (Option ℤ)
length_of_part (NumberAt at n) = if nat_lt n (2 ^ 31) then Some (Some (pos n)) else None
length_of_part (MinusAt at n) = if nat_le n (2 ^ 31) then Some (Some (minus n)) else None
length_of_part (NameAt at name) = if bytes_eq name (codes "all") then Some None else None
length_of_part _ = None

-- a class's name
abbrev pub class_name : Lexeme → Option (List ℕ)
class_name (StringAt at s) = if nat_le 1 (length s) && nat_le (length s) 255 then Some s else None
class_name _ = None

-- the readers one nesting level deeper, after the bracket or `not` at a place: of a whole
-- expression, of an operand of `not`, and of a class's name
pub record Deeper : Type 0 where
  pub any : ℕ → Reader Tree
  pub operand : ℕ → Reader Tree
  pub name : ℕ → Reader (List ℕ)

-- what follows `option` or `relay4`: the code in brackets, and whether `exists` follows
abbrev pub bracketed : (Lexeme → Option ℕ) → (Lexeme → SyntaxFault) → Reader (ℕ × Bool)
bracketed code refusal =
    seq (sign_here 91) (λ _. seq (wanted code refusal)
    (λ c. seq (sign_here 93) (λ _. seq (sign_here 46) (λ _. seq (wanted suffix_of refusal_of)
    (λ exists. done (c, exists))))))

-- what follows `option`
unfoldable pub option_at : ℕ → Reader Tree
option_at at =
    seq (bracketed code_of_option option_refusal)
    (λ c. done (if c.1 then OptionExists at c.0 else OptionValue at c.0))

-- what follows `relay4`
unfoldable pub relay_at : ℕ → Reader Tree
relay_at at =
    seq (bracketed code_of_relay code_refusal)
    (λ c. done (if c.1 then RelayExists at c.0 else RelayValue at c.0))

-- what follows `pkt4`
unfoldable pub field_after : ℕ → Reader Tree
field_after at =
    seq (sign_here 46)
    (λ _. seq (wanted field_of refusal_of) (λ part. done (FieldValue at part)))

-- what follows `pkt`
unfoldable pub packet_at : ℕ → Reader Tree
packet_at at =
    seq (sign_here 46) (λ _. seq (word_here (codes "len")) (λ _. done (FieldValue at Length)))

-- what follows `member`
unfoldable pub member_at : Deeper → ℕ → Reader Tree
member_at deeper at =
    seq (sign_here 40)
    (λ bracket. seq (deeper.name bracket) (λ s. seq (sign_here 41) (λ _. done (Member at s))))

-- an operand after the bracket at a place, and this sign after it
unfoldable pub operand_then : Deeper → ℕ → ℕ → Reader Tree
operand_then deeper bracket b =
    seq (deeper.any bracket) (λ a. seq (sign_here b) (λ _. done a))

-- an operand in brackets
unfoldable pub operand_in_brackets : Deeper → Reader Tree
operand_in_brackets deeper =
    seq (sign_here 40) (λ bracket. operand_then deeper bracket 41)

-- a group
unfoldable pub group_at : Deeper → Reader Tree
group_at deeper =
    seq (sign_here 40) (λ at. seq (operand_then deeper at 41) (λ a. done (Group at a)))

-- two operands in brackets
unfoldable pub operands_in_brackets : Deeper → Reader (Tree × Tree)
operands_in_brackets deeper =
    seq (sign_here 40) (λ bracket. seq (operand_then deeper bracket 44)
    (λ a. seq (operand_then deeper bracket 41) (λ b. done (a, b))))

-- what follows `ifelse`
unfoldable pub ifelse_at : Deeper → ℕ → Reader Tree
ifelse_at deeper at =
    seq (sign_here 40) (λ bracket. seq (operand_then deeper bracket 44)
    (λ t. seq (operand_then deeper bracket 44)
    (λ a. seq (operand_then deeper bracket 41) (λ b. done (IfElse at t a b)))))

-- what follows `substring`
unfoldable pub substring_after : Deeper → ℕ → Reader Tree
substring_after deeper at =
    seq (sign_here 40) (λ bracket. seq (operand_then deeper bracket 44)
    (λ a. seq (wanted signed signed_refusal)
    (λ start. seq (sign_here 44) (λ _. seq (wanted length_of_part signed_refusal)
    (λ len. seq (sign_here 41) (λ _. done (Substring at a start len)))))))

-- what follows the name of a form with operands
unfoldable pub form_at : Deeper → ℕ → List ℕ → Reader Tree
form_at deeper at name =
    if bytes_eq name (codes "substring") then substring_after deeper at
    else if bytes_eq name (codes "ifelse") then ifelse_at deeper at
    else if bytes_eq name (codes "concat") then seq (operands_in_brackets deeper)
    (λ x. done (Concat at x.0 x.1))
    else if bytes_eq name (codes "hexstring") then seq (operands_in_brackets deeper)
    (λ x. done (HexString at x.0 x.1))
    else if bytes_eq name (codes "lcase") then seq (operand_in_brackets deeper)
    (λ a. done (Lower at a))
    else if bytes_eq name (codes "ucase") then seq (operand_in_brackets deeper)
    (λ a. done (Upper at a))
    else if bytes_eq name (codes "uint32totext") then seq (operand_in_brackets deeper)
    (λ a. done (IntToText at a))
    else (λ end ts. Err (faults.Expected at))

-- what follows a name
unfoldable pub named_at : Deeper → ℕ → List ℕ → Reader Tree
named_at deeper at name =
    if bytes_eq name (codes "option") then option_at at
    else if bytes_eq name (codes "relay4") then relay_at at
    else if bytes_eq name (codes "pkt4") then field_after at
    else if bytes_eq name (codes "pkt") then packet_at at
    else if bytes_eq name (codes "member") then member_at deeper at
    else form_at deeper at name

-- a primary: a literal, a number, a group, or what begins with a name
unfoldable pub primary_at : Deeper → Reader Tree
primary_at deeper end [] = Err (faults.Expected end)
primary_at deeper end (StringAt at s ∷ ts) = Ok (Literal at s, ts)
primary_at deeper end (HexAt at digits ∷ ts) = Ok (Literal at (hex_bytes digits), ts)
primary_at deeper end (AddressAt at bytes ∷ ts) = Ok (Literal at bytes, ts)
primary_at deeper end (NumberAt at n ∷ ts) =
    if nat_lt n (2 ^ 32) then Ok (Int at n, ts) else Err (faults.NumberTooLarge at)
primary_at deeper end (MinusAt at n ∷ ts) = Err (faults.Expected at)
primary_at deeper end (NameAt at name ∷ ts) = named_at deeper at name end ts
primary_at deeper end (SignAt at b ∷ ts) = group_at deeper end (SignAt at b ∷ ts)
primary_at deeper end (BadAt at ∷ ts) = Err (faults.BadToken at)

-- at most k further operands after the first, grouped to the left
unfoldable pub operands_joined : (Lexeme → Option ℕ) → Reader Tree → (Tree → Tree → Tree) → ℕ → Tree
    → Reader Tree
operands_joined next operand join zero first = done first
operands_joined next operand join (suc k) first =
    either next (λ _. seq operand (λ b. operands_joined next operand join k (join first b)))
    (done first)

-- an operand and all further ones
unfoldable pub chain : (Lexeme → Option ℕ) → Reader Tree → (Tree → Tree → Tree) → Reader Tree
chain next operand join end ts =
    on_ok (operand end ts) (λ a. operands_joined next operand join (length a.1) a.0 end a.1)

-- a sum at the place of its left operand
abbrev pub sum_of : Tree → Tree → Tree
sum_of a b = Concat (at_of a) a b

-- a conjunction at the place of its left operand
abbrev pub and_of : Tree → Tree → Tree
and_of a b = And (at_of a) a b

-- a disjunction at the place of its left operand
abbrev pub or_of : Tree → Tree → Tree
or_of a b = Or (at_of a) a b

-- a sum
unfoldable pub sum_at : Deeper → Reader Tree
sum_at deeper = chain (sign_at 43) (primary_at deeper) sum_of

-- a comparison, or just a sum
unfoldable pub compare_at : Deeper → Reader Tree
compare_at deeper =
    seq (sum_at deeper) (λ a. either (sign_at 61)
    (λ _. seq (sum_at deeper) (λ b. done (Equal (at_of a) a b))) (done a))

-- a negation, or a comparison
unfoldable pub not_at : Deeper → Reader Tree
not_at deeper =
    either (word_at (codes "not")) (λ at. seq (deeper.operand at) (λ a. done (Not at a)))
    (compare_at deeper)

-- a conjunction
unfoldable pub and_at : Deeper → Reader Tree
and_at deeper = chain (word_at (codes "and")) (not_at deeper) and_of

-- a disjunction, which is any expression
unfoldable pub or_at : Deeper → Reader Tree
or_at deeper = chain (word_at (codes "or")) (and_at deeper) or_of

-- the readers one nesting level deeper, where n more may be nested
unfoldable pub below : ℕ → Deeper
below zero = record {
  any = λ at end ts. Err (faults.TooNested at);
  operand = λ at end ts. Err (faults.TooNested at);
  name = λ at end ts. Err (faults.TooNested at);
}
below (suc n) = record {
  any = λ at. or_at (below n);
  operand = λ at. not_at (below n);
  name = λ at. wanted class_name refusal_of;
}

-- a tree that was read, if no tokens remain
abbrev pub all_read : Tree → List Lexeme → Result Tree SyntaxFault
all_read tree [] = Ok tree
all_read tree (x ∷ ts) = Err (refusal_of x)

-- the tree of all tokens
unfoldable pub whole_at : ℕ → List Lexeme → Result Tree SyntaxFault
whole_at end ts = on_ok (or_at (below 64) end ts) (λ x. all_read x.0 x.1)
