-- What the type of a class test says of its nodes: each operand has the type that is needed, and
-- the kind of its value on a stack is known.
use Rattle.std.proofs.Common.{◌≡◌, ℕ, ◌+◌, true, false, length, refl, subst, inl, inr}
use Rattle.std.specs.Prelude.{◌⊎◌, max, Result, Ok, Err}
use Rattle.kd_compile.specs.Measures.{number_tree, bound}
use Rattle.kd_expr.specs.Tree.{Tree, Literal, Int, OptionValue, RelayValue, FieldValue, OptionExists, RelayExists, Member, Equal, Not, And, Or, Group, Concat, IfElse, Substring, HexString, Lower, Upper, IntToText, at_of}
use Rattle.kd_expr.specs.Typing.{type_of, field_type, want_bool, want_bytes, want_int, andthen}
use Rattle.kd_expr.specs.declared.fault.TypeFault.{TypeFault}
use Rattle.kd_wire.specs.declared.field.Field.{Field}
use Rattle.kd_wire.specs.declared.field.Field.TheVariants as parts
use Rattle.kd_expr.specs.declared.typing.ValueType.{ValueType}
use Rattle.kd_expr.specs.declared.typing.ValueType.TheVariants as types
use Rattle.kd_token.specs.Shape.{field_kind, bound_of_hex, bound_of_substring}
use Rattle.kd_token.specs.declared.shape.Kind.{Kind}
use Rattle.kd_token.specs.declared.shape.Kind.TheVariants as kinds

-- the kind of an expression's value
abbrev pub kind_of : Tree → Kind
kind_of (Literal at bytes) = kinds.Bytes (length bytes)
kind_of (Int at n) = kinds.Int
kind_of (OptionValue at code) = kinds.Bytes 4096
kind_of (RelayValue at code) = kinds.Bytes 255
kind_of (FieldValue at field) = field_kind field
kind_of (OptionExists at code) = kinds.Bool
kind_of (RelayExists at code) = kinds.Bool
kind_of (Member at name) = kinds.Bool
kind_of (Equal at a b) = kinds.Bool
kind_of (Not at a) = kinds.Bool
kind_of (And at a b) = kinds.Bool
kind_of (Or at a b) = kinds.Bool
kind_of (Group at a) = kinds.Bool
kind_of (Concat at a b) = kinds.Bytes (bound a + bound b)
kind_of (IfElse at t a b) = kinds.Bytes (max (bound a) (bound b))
kind_of (Substring at a start count) = kinds.Bytes (bound_of_substring (bound a) count)
kind_of (HexString at a b) = kinds.Bytes (bound_of_hex (bound a) (bound b))
kind_of (Lower at a) = kinds.Bytes (bound a)
kind_of (Upper at a) = kinds.Bytes (bound a)
kind_of (IntToText at a) = kinds.Bytes 10

-- a truth value
abbrev pub IsTruth : Tree → Type 0
IsTruth t = kind_of t ≡ kinds.Bool

-- a number, whose byte string is its four bytes
pub record IsNumber (t : Tree) : Type 0 where
  pub number : number_tree t ≡ true
  pub kind : kind_of t ≡ kinds.Int
  pub size : bound t ≡ 4

-- a byte string
pub record IsText (t : Tree) : Type 0 where
  pub text : number_tree t ≡ false
  pub kind : kind_of t ≡ kinds.Bytes (bound t)

-- what a type says of a tree
abbrev pub HasType : ValueType → Tree → Type 0
HasType types.Bool t = IsTruth t
HasType types.Int t = IsNumber t
HasType types.Bytes t = IsText t

-- a byte string, or a number in its place
abbrev pub IsBytes : Tree → Type 0
IsBytes t = IsNumber t ⊎ IsText t

-- each operand has the type that is needed
abbrev pub IsWell : Tree → Type 0
IsWell (Literal at bytes) = Unit {0}
IsWell (Int at n) = Unit {0}
IsWell (OptionValue at code) = Unit {0}
IsWell (RelayValue at code) = Unit {0}
IsWell (FieldValue at field) = Unit {0}
IsWell (OptionExists at code) = Unit {0}
IsWell (RelayExists at code) = Unit {0}
IsWell (Member at name) = Unit {0}
IsWell (Equal at a b) = (IsBytes a × IsWell a) × (IsBytes b × IsWell b)
IsWell (Not at a) = IsTruth a × IsWell a
IsWell (And at a b) = (IsTruth a × IsWell a) × (IsTruth b × IsWell b)
IsWell (Or at a b) = (IsTruth a × IsWell a) × (IsTruth b × IsWell b)
IsWell (Group at a) = IsTruth a × IsWell a
IsWell (Concat at a b) = (IsBytes a × IsWell a) × (IsBytes b × IsWell b)
IsWell (IfElse at t a b) = (IsTruth t × IsWell t) × (IsBytes a × IsWell a) × (IsBytes b × IsWell b)
IsWell (Substring at a start count) = IsBytes a × IsWell a
IsWell (HexString at a b) = (IsBytes a × IsWell a) × (IsBytes b × IsWell b)
IsWell (Lower at a) = IsBytes a × IsWell a
IsWell (Upper at a) = IsBytes a × IsWell a
IsWell (IntToText at a) = IsNumber a × IsWell a

-- what a typed tree is
abbrev Told : Tree → Type 0
Told t = (ty : ValueType) → type_of t ≡ Ok ty → HasType ty t × IsWell t

-- if a sequence of results ends well, the first does, and the rest
and_both : {A : Type 0} (first : Result (Unit {0}) TypeFault) (rest : Result A TypeFault) (x : A) → andthen first rest ≡ Ok x → (first ≡ Ok tt) × (rest ≡ Ok x)
and_both (Ok tt) rest x e = (refl, e)
and_both (Err fault) rest x e = absurd (cc)

-- a type as a result
abbrev answer : ValueType → Result ValueType TypeFault
answer x = Ok x

same_type : (ty wanted : ValueType) (t : Tree) → answer wanted ≡ Ok ty → HasType wanted t → HasType ty t
same_type ty wanted t e h = let same : wanted ≡ ty = cc in let P : ValueType → Type 0 = λ v. HasType v t in subst P same h

truth_told : (t : Tree) → Told t → want_bool (at_of t) (type_of t) ≡ Ok tt → IsTruth t × IsWell t
truth_told t told wanted = by (type_of t) told wanted where
  by : (r : Result ValueType TypeFault) → ((ty : ValueType) → r ≡ Ok ty → HasType ty t × IsWell t) → want_bool (at_of t) r ≡ Ok tt → IsTruth t × IsWell t
  by (Ok types.Bool) told e = told types.Bool refl
  by (Ok types.Int) told e = absurd (cc)
  by (Ok types.Bytes) told e = absurd (cc)
  by (Err fault) told e = absurd (cc)

bytes_told : (t : Tree) → Told t → want_bytes (at_of t) (type_of t) ≡ Ok tt → IsBytes t × IsWell t
bytes_told t told wanted = by (type_of t) told wanted where
  by : (r : Result ValueType TypeFault) → ((ty : ValueType) → r ≡ Ok ty → HasType ty t × IsWell t) → want_bytes (at_of t) r ≡ Ok tt → IsBytes t × IsWell t
  by (Ok types.Bool) told e = absurd (cc)
  by (Ok types.Int) told e = let h = told types.Int refl in (inl h.0, h.1)
  by (Ok types.Bytes) told e = let h = told types.Bytes refl in (inr h.0, h.1)
  by (Err fault) told e = absurd (cc)

number_told : (t : Tree) → Told t → want_int (at_of t) (type_of t) ≡ Ok tt → IsNumber t × IsWell t
number_told t told wanted = by (type_of t) told wanted where
  by : (r : Result ValueType TypeFault) → ((ty : ValueType) → r ≡ Ok ty → HasType ty t × IsWell t) → want_int (at_of t) r ≡ Ok tt → IsNumber t × IsWell t
  by (Ok types.Bool) told e = absurd (cc)
  by (Ok types.Int) told e = told types.Int refl
  by (Ok types.Bytes) told e = absurd (cc)
  by (Err fault) told e = absurd (cc)

part_type : (at : ℕ) (field : Field) → HasType (field_type field) (FieldValue at field)
part_type at parts.Mac = record { text = refl; kind = refl }
part_type at parts.Hlen = record { number = refl; kind = refl; size = refl }
part_type at parts.Htype = record { number = refl; kind = refl; size = refl }
part_type at parts.Ciaddr = record { text = refl; kind = refl }
part_type at parts.Giaddr = record { text = refl; kind = refl }
part_type at parts.Yiaddr = record { text = refl; kind = refl }
part_type at parts.Siaddr = record { text = refl; kind = refl }
part_type at parts.MessageType = record { number = refl; kind = refl; size = refl }
part_type at parts.Transaction = record { number = refl; kind = refl; size = refl }
part_type at parts.Length = record { number = refl; kind = refl; size = refl }

-- one operand, and the type of the node
one_bool : (t : Tree) → Told t → (x ty : ValueType) → andthen (want_bool (at_of t) (type_of t)) (Ok x) ≡ Ok ty → (answer x ≡ Ok ty) × (IsTruth t × IsWell t)
one_bool t told x ty e = let both = and_both _ _ ty e in (both.1, truth_told t told both.0)

one_bytes : (t : Tree) → Told t → (rest : Result ValueType TypeFault) (ty : ValueType) → andthen (want_bytes (at_of t) (type_of t)) rest ≡ Ok ty → (rest ≡ Ok ty) × (IsBytes t × IsWell t)
one_bytes t told rest ty e = let both = and_both _ rest ty e in (both.1, bytes_told t told both.0)

two_bools : (a b : Tree) → Told a → Told b → (ty : ValueType) → andthen (want_bool (at_of a) (type_of a)) (andthen (want_bool (at_of b) (type_of b)) (Ok types.Bool)) ≡ Ok ty
    → (answer types.Bool ≡ Ok ty) × ((IsTruth a × IsWell a) × (IsTruth b × IsWell b))
two_bools a b first second ty e =
    let both = and_both _ _ ty e in
    let rest = one_bool b second types.Bool ty both.1 in
    (rest.0, (truth_told a first both.0, rest.1))

two_bytes : (a b : Tree) → Told a → Told b → (x ty : ValueType) → andthen (want_bytes (at_of a) (type_of a)) (andthen (want_bytes (at_of b) (type_of b)) (Ok x)) ≡ Ok ty
    → (answer x ≡ Ok ty) × ((IsBytes a × IsWell a) × (IsBytes b × IsWell b))
two_bytes a b first second x ty e =
    let start = one_bytes a first _ ty e in
    let rest = one_bytes b second (Ok x) ty start.0 in
    (rest.0, (start.1, rest.1))

-- a tree with a type is what the type says, and each operand has the type that is needed
pub well_of : (t : Tree) (ty : ValueType) → type_of t ≡ Ok ty → HasType ty t × IsWell t
well_of (Literal at bytes) ty e = (same_type ty types.Bytes _ e (record { text = refl; kind = refl }), tt)
well_of (Int at n) ty e = (same_type ty types.Int _ e (record { number = refl; kind = refl; size = refl }), tt)
well_of (OptionValue at code) ty e = (same_type ty types.Bytes _ e (record { text = refl; kind = refl }), tt)
well_of (RelayValue at code) ty e = (same_type ty types.Bytes _ e (record { text = refl; kind = refl }), tt)
well_of (FieldValue at field) ty e = (same_type ty (field_type field) _ e (part_type at field), tt)
well_of (OptionExists at code) ty e = (same_type ty types.Bool _ e refl, tt)
well_of (RelayExists at code) ty e = (same_type ty types.Bool _ e refl, tt)
well_of (Member at name) ty e = (same_type ty types.Bool _ e refl, tt)
well_of (Equal at a b) ty e = let h = two_bytes a b (well_of a) (well_of b) types.Bool ty e in (same_type ty types.Bool (Equal at a b) h.0 refl, h.1)
well_of (Not at a) ty e = let h = one_bool a (well_of a) types.Bool ty e in (same_type ty types.Bool (Not at a) h.0 refl, h.1)
well_of (And at a b) ty e = let h = two_bools a b (well_of a) (well_of b) ty e in (same_type ty types.Bool (And at a b) h.0 refl, h.1)
well_of (Or at a b) ty e = let h = two_bools a b (well_of a) (well_of b) ty e in (same_type ty types.Bool (Or at a b) h.0 refl, h.1)
well_of (Group at a) ty e = let h = one_bool a (well_of a) types.Bool ty e in (same_type ty types.Bool (Group at a) h.0 refl, h.1)
well_of (Concat at a b) ty e =
    let h = two_bytes a b (well_of a) (well_of b) types.Bytes ty e in
    (same_type ty types.Bytes (Concat at a b) h.0 (record { text = refl; kind = refl }), h.1)
well_of (IfElse at t a b) ty e =
    let both = and_both _ _ ty e in
    let h = two_bytes a b (well_of a) (well_of b) types.Bytes ty both.1 in
    (same_type ty types.Bytes (IfElse at t a b) h.0 (record { text = refl; kind = refl }), (truth_told t (well_of t) both.0, h.1.0, h.1.1))
well_of (Substring at a start count) ty e =
    let h = one_bytes a (well_of a) (Ok types.Bytes) ty e in
    (same_type ty types.Bytes (Substring at a start count) h.0 (record { text = refl; kind = refl }), h.1)
well_of (HexString at a b) ty e =
    let h = two_bytes a b (well_of a) (well_of b) types.Bytes ty e in
    (same_type ty types.Bytes (HexString at a b) h.0 (record { text = refl; kind = refl }), h.1)
well_of (Lower at a) ty e =
    let h = one_bytes a (well_of a) (Ok types.Bytes) ty e in
    (same_type ty types.Bytes (Lower at a) h.0 (record { text = refl; kind = refl }), h.1)
well_of (Upper at a) ty e =
    let h = one_bytes a (well_of a) (Ok types.Bytes) ty e in
    (same_type ty types.Bytes (Upper at a) h.0 (record { text = refl; kind = refl }), h.1)
well_of (IntToText at a) ty e =
    let both = and_both _ _ ty e in
    (same_type ty types.Bytes (IntToText at a) both.1 (record { text = refl; kind = refl }), number_told a (well_of a) both.0)
