-- The tokens of an expression make its value, wherever they are and whatever values are below.
use Rattle.std.proofs.Common.{◌≡◌, ℕ, ◌+◌, Bool, true, false, List, [], ◌∷◌, ◌++◌, length, length-append, Option, Some, refl, sym, ap, subst, arith, inl, inr}
use Rattle.std.specs.Prelude.{◌⊎◌, ◌&&◌, ◌||◌, if◌then◌else◌, slice_get}
use Rattle.std.proofs.lemmas.List.{append_assoc}
use Rattle.kd_compile.specs.Measures.{four_more}
use Rattle.kd_compile.specs.Measures.{token_count as size}
use Rattle.kd_compile.specs.Tokens.{code_of, in_bytes, index_of}
use Rattle.kd_compile.specs.Value.{value, truth_in, number_in, bytes_in}
use Rattle.kd_compile.proofs.Fits.{code_length, operand_length}
use Rattle.kd_compile.proofs.Places.{Knows}
use Rattle.kd_compile.proofs.Typed.{kind_of, IsTruth, IsNumber, IsText, IsBytes, IsWell}
use Rattle.kd_compile.proofs.Ways.{Makes, makes_both, makes_over, makes_none, makes_one, makes_next, makes_past}
use Rattle.kd_expr.specs.Tree.{Tree, Literal, Int, OptionValue, RelayValue, FieldValue, OptionExists, RelayExists, Member, Equal, Not, And, Or, Group, Concat, IfElse, Substring, HexString, Lower, Upper, IntToText}
use Rattle.kd_wire.specs.declared.field.Field.{Field}
use Rattle.kd_wire.specs.declared.field.Field.TheVariants as parts
use Rattle.kd_machine.specs.Run.{rule, moves}
use Rattle.kd_machine.specs.Val.{Val, Truth, Number, Text}
use Rattle.kd_machine.specs.World.{World, world}
use Rattle.kd_machine.specs.Parts.{is_held, value_of_field}
use Rattle.kd_options.specs.Message.{Seen}
use Rattle.kd_token.specs.File.{Code}
use Rattle.kd_wire.specs.Steps.{◌>>=◌}
use Rattle.kd_token.specs.declared.shape.Kind.{Kind}
use Rattle.kd_token.specs.declared.shape.Kind.TheVariants as kinds
use Rattle.kd_token.specs.declared.token.Token.{Token}
use Rattle.kd_token.specs.declared.token.Token.TheVariants as tokens

-- a value of a kind
abbrev HasKind : Kind → Val → Type 0
HasKind kinds.Bool v = v ≡ Truth (truth_in v)
HasKind kinds.Int v = v ≡ Number (number_in v)
HasKind (kinds.Bytes most) v = v ≡ Text (bytes_in v)

part_kind : (m : Seen) (at : ℕ) (field : Field) → HasKind (kind_of (FieldValue at field)) (value_of_field m field)
part_kind m at parts.Mac = refl
part_kind m at parts.Hlen = refl
part_kind m at parts.Htype = refl
part_kind m at parts.Ciaddr = refl
part_kind m at parts.Giaddr = refl
part_kind m at parts.Yiaddr = refl
part_kind m at parts.Siaddr = refl
part_kind m at parts.MessageType = refl
part_kind m at parts.Transaction = refl
part_kind m at parts.Length = refl

-- the value of an expression is of its kind
value_kind : (m : Seen) (held : List (List ℕ)) (t : Tree) → IsWell t → HasKind (kind_of t) (value m held t)
value_kind m held (Literal at bytes) well = refl
value_kind m held (Int at n) well = refl
value_kind m held (OptionValue at code) well = refl
value_kind m held (RelayValue at code) well = refl
value_kind m held (FieldValue at field) well = part_kind m at field
value_kind m held (OptionExists at code) well = refl
value_kind m held (RelayExists at code) well = refl
value_kind m held (Member at name) well = refl
value_kind m held (Equal at a b) well = refl
value_kind m held (Not at a) well = refl
value_kind m held (And at a b) well = refl
value_kind m held (Or at a b) well = refl
value_kind m held (Group at a) well =
    let K : Kind → Type 0 = λ k. HasKind k (value m held a) in
    subst K well.0 (value_kind m held a well.1)
value_kind m held (Concat at a b) well = refl
value_kind m held (IfElse at t a b) well = refl
value_kind m held (Substring at a start count) well = refl
value_kind m held (HexString at a b) well = refl
value_kind m held (Lower at a) well = refl
value_kind m held (Upper at a) well = refl
value_kind m held (IntToText at a) well = refl

pub truth_is : (m : Seen) (held : List (List ℕ)) (t : Tree) → IsTruth t → IsWell t → value m held t ≡ Truth (truth_in (value m held t))
truth_is m held t is well = let K : Kind → Type 0 = λ k. HasKind k (value m held t) in subst K is (value_kind m held t well)

number_is : (m : Seen) (held : List (List ℕ)) (t : Tree) → IsNumber t → IsWell t → value m held t ≡ Number (number_in (value m held t))
number_is m held t is well = let K : Kind → Type 0 = λ k. HasKind k (value m held t) in subst K is.kind (value_kind m held t well)

text_is : (m : Seen) (held : List (List ℕ)) (t : Tree) → IsText t → IsWell t → value m held t ≡ Text (bytes_in (value m held t))
text_is m held t is well = let K : Kind → Type 0 = λ k. HasKind k (value m held t) in subst K is.kind (value_kind m held t well)

-- a number becomes its four bytes
four_bytes : (p : Code) (w : World) (v : Val) (s : List Val) → v ≡ Number (number_in v) → Makes p w (tokens.IntBytes ∷ []) (v ∷ s) (Text (bytes_in v) ∷ s)
unfolding rule
four_bytes p w (Number n) s e = makes_one p w tokens.IntBytes (Number n ∷ s) (Text (bytes_in (Number n)) ∷ s) (λ i. refl)
four_bytes p w (Truth b) s e = absurd (cc)
four_bytes p w (Text bytes) s e = absurd (cc)

same_bytes : (p : Code) (w : World) (v : Val) (s : List Val) → v ≡ Text (bytes_in v) → Makes p w [] (v ∷ s) (Text (bytes_in v) ∷ s)
same_bytes p w v s e = let P : Val → Type 0 = λ x. Makes p w [] (v ∷ s) (x ∷ s) in subst P e (makes_none p w (v ∷ s))

-- a truth value that stays if it decides
and_makes : (p : Code) (w : World) (xs ys : List Token) (s : List Val) (a b : Bool) (skip : ℕ) → skip ≡ length ys → Makes p w xs s (Truth a ∷ s) → Makes p w ys s (Truth b ∷ s)
    → Makes p w (xs ++ tokens.BranchFalseElsePop skip ∷ ys) s (Truth (a && b) ∷ s)
and_makes p w xs ys s true b skip e first second =
    makes_both p w xs (tokens.BranchFalseElsePop skip ∷ ys) s (Truth true ∷ s) (Truth b ∷ s) first
    (makes_next p w (tokens.BranchFalseElsePop skip) ys (Truth true ∷ s) s (Truth b ∷ s) (λ i. refl) second)
and_makes p w xs ys s false b skip e first second =
    makes_both p w xs (tokens.BranchFalseElsePop skip ∷ ys) s (Truth false ∷ s) (Truth false ∷ s) first
    (makes_past p w (tokens.BranchFalseElsePop skip) ys (Truth false ∷ s) (Truth false ∷ s) (λ i. ap (λ k. Some (i + 1 + k, Truth false ∷ s)) e))

or_makes : (p : Code) (w : World) (xs ys : List Token) (s : List Val) (a b : Bool) (skip : ℕ) → skip ≡ length ys → Makes p w xs s (Truth a ∷ s) → Makes p w ys s (Truth b ∷ s)
    → Makes p w (xs ++ tokens.BranchTrueElsePop skip ∷ ys) s (Truth (a || b) ∷ s)
or_makes p w xs ys s false b skip e first second =
    makes_both p w xs (tokens.BranchTrueElsePop skip ∷ ys) s (Truth false ∷ s) (Truth b ∷ s) first
    (makes_next p w (tokens.BranchTrueElsePop skip) ys (Truth false ∷ s) s (Truth b ∷ s) (λ i. refl) second)
or_makes p w xs ys s true b skip e first second =
    makes_both p w xs (tokens.BranchTrueElsePop skip ∷ ys) s (Truth true ∷ s) (Truth true ∷ s) first
    (makes_past p w (tokens.BranchTrueElsePop skip) ys (Truth true ∷ s) (Truth true ∷ s) (λ i. ap (λ k. Some (i + 1 + k, Truth true ∷ s)) e))

-- one of two arms
arms_make : (p : Code) (w : World) (xs ys zs : List Token) (s : List Val) (t : Bool) (a b : List ℕ) (over past : ℕ) → over ≡ length ys + 1 → past ≡ length zs → Makes p w xs s (Truth t ∷ s) → Makes p w ys s (Text a ∷ s) → Makes p w zs s (Text b ∷ s)
    → Makes p w (xs ++ tokens.PopBranchFalse over ∷ (ys ++ tokens.Branch past ∷ zs)) s (Text (if t then a else b) ∷ s)
arms_make p w xs ys zs s true a b over past e f test first second =
    let behind = makes_past p w (tokens.Branch past) zs (Text a ∷ s) (Text a ∷ s) (λ i. ap (λ k. Some (i + 1 + k, Text a ∷ s)) f) in
    let arm = makes_both p w ys (tokens.Branch past ∷ zs) s (Text a ∷ s) (Text a ∷ s) first behind in
    makes_both p w xs (tokens.PopBranchFalse over ∷ (ys ++ tokens.Branch past ∷ zs)) s (Truth true ∷ s) (Text a ∷ s) test
    (makes_next p w (tokens.PopBranchFalse over) (ys ++ tokens.Branch past ∷ zs) (Truth true ∷ s) s (Text a ∷ s) (λ i. refl) arm)
arms_make p w xs ys zs s false a b over past e f test first second =
    let size = length-append {A = Token} ys (tokens.Branch past ∷ []) in
    let far : over ≡ length (ys ++ tokens.Branch past ∷ []) = omega (arith, e, size) in
    let arm = makes_over p w (tokens.PopBranchFalse over) (ys ++ tokens.Branch past ∷ []) zs (Truth false ∷ s) s (Text b ∷ s) (λ i. ap (λ k. Some (i + 1 + k, s)) far) second in
    let P : List Token → Type 0 = λ us. Makes p w (tokens.PopBranchFalse over ∷ us) (Truth false ∷ s) (Text b ∷ s) in
    makes_both p w xs (tokens.PopBranchFalse over ∷ (ys ++ tokens.Branch past ∷ zs)) s (Truth false ∷ s) (Text b ∷ s) test
    (subst P (append_assoc ys (tokens.Branch past ∷ []) zs) arm)

module _ (p : Code) (m : Seen) (held : List (List ℕ)) where
  -- the world of the program
  abbrev here : World
  here = world p m held

  -- what an expression's tokens make
  abbrev MakesValue : Tree → Type 0
  MakesValue t = (s : List Val) → Makes p here (code_of p.names t) s (value m held t ∷ s)

  -- an operand's value
  abbrev of : Tree → Val
  of t = value m held t

  truth_makes : (t : Tree) → IsTruth t → IsWell t → MakesValue t → (s : List Val) → Makes p here (code_of p.names t) s (Truth (truth_in (of t)) ∷ s)
  truth_makes t is well makes s = let P : Val → Type 0 = λ v. Makes p here (code_of p.names t) s (v ∷ s) in subst P (truth_is m held t is well) (makes s)

  number_makes : (t : Tree) → IsNumber t → IsWell t → MakesValue t → (s : List Val) → Makes p here (code_of p.names t) s (Number (number_in (of t)) ∷ s)
  number_makes t is well makes s = let P : Val → Type 0 = λ v. Makes p here (code_of p.names t) s (v ∷ s) in subst P (number_is m held t is well) (makes s)

  bytes_make : (t : Tree) → IsBytes t → IsWell t → MakesValue t → (s : List Val) → Makes p here (code_of p.names t ++ in_bytes t) s (Text (bytes_in (of t)) ∷ s)
  bytes_make t is well makes s = makes_both p here (code_of p.names t) (in_bytes t) s (of t ∷ s) (Text (bytes_in (of t)) ∷ s) (makes s) (by is) where
    B : Bool → Type 0
    B b = Makes p (world p m held) (if b then tokens.IntBytes ∷ [] else []) (value m held t ∷ s) (Text (bytes_in (value m held t)) ∷ s)

    by : IsNumber t ⊎ IsText t → Makes p (world p m held) (in_bytes t) (value m held t ∷ s) (Text (bytes_in (value m held t)) ∷ s)
    by (inl n) = subst B (sym n.number) (four_bytes p (world p m held) (value m held t) s (number_is m held t n well))
    by (inr b) = subst B (sym b.text) (same_bytes p (world p m held) (value m held t) s (text_is m held t b well))

  one_makes : (t : Tree) (x : Token) (v : Val) → IsBytes t → IsWell t → MakesValue t → ((s : List Val) (i : ℕ) → moves here x i (Text (bytes_in (of t)) ∷ s) ≡ Some (i + 1, v ∷ s))
      → (s : List Val) → Makes p here (code_of p.names t ++ in_bytes t ++ x ∷ []) s (v ∷ s)
  one_makes t x v is well makes moved s =
      makes_both p here (code_of p.names t ++ in_bytes t) (x ∷ []) s (Text (bytes_in (of t)) ∷ s) (v ∷ s) (bytes_make t is well makes s)
      (makes_one p here x (Text (bytes_in (of t)) ∷ s) (v ∷ s) (moved s))

  two_make : (a b : Tree) (x : Token) (v : Val) → IsBytes a → IsWell a → IsBytes b → IsWell b → MakesValue a → MakesValue b → ((s : List Val) (i : ℕ) → moves here x i (Text (bytes_in (of b)) ∷ Text (bytes_in (of a)) ∷ s) ≡ Some (i + 1, v ∷ s))
      → (s : List Val) → Makes p here (code_of p.names a ++ in_bytes a ++ (code_of p.names b ++ in_bytes b) ++ x ∷ []) s (v ∷ s)
  two_make a b x v is well are good first second moved s =
      let below = Text (bytes_in (of a)) ∷ s in
      let both = makes_both p here (code_of p.names a ++ in_bytes a) (code_of p.names b ++ in_bytes b) s below (Text (bytes_in (of b)) ∷ below) (bytes_make a is well first s) (bytes_make b are good second below) in
      makes_both p here (code_of p.names a ++ in_bytes a ++ (code_of p.names b ++ in_bytes b)) (x ∷ []) s (Text (bytes_in (of b)) ∷ below) (v ∷ s) both
      (makes_one p here x (Text (bytes_in (of b)) ∷ below) (v ∷ s) (moved s))

-- a token that pushes a value
push_makes : (p : Code) (w : World) (x : Token) (v : Val) → ((s : List Val) (i : ℕ) → moves w x i s ≡ Some (i + 1, v ∷ s)) → (s : List Val) → Makes p w (x ∷ []) s (v ∷ s)
push_makes p w x v moved s = makes_one p w x s (v ∷ s) (moved s)

-- the name of a member's token
member_moves : (p : Code) (m : Seen) (held : List (List ℕ)) (name : List ℕ) → slice_get p.names (index_of name p.names) ≡ Some name → (s : List Val) (i : ℕ)
    → moves (world p m held) (tokens.Member (index_of name p.names)) i s ≡ Some (i + 1, Truth (is_held name held) ∷ s)
unfolding rule
member_moves p m held name e s i =
    let F : Option (List ℕ) → Option (ℕ × List Val) = λ o. o >>= (λ x. Some (Truth (is_held x held) ∷ s)) >>= λ t. Some (i + 1, t) in
    ap F e

-- the tokens of an expression whose operands have the types that are needed make its value
pub tree_makes : (p : Code) (m : Seen) (held : List (List ℕ)) (t : Tree) → IsWell t → Knows p.names t → (s : List Val) → Makes p (world p m held) (code_of p.names t) s (value m held t ∷ s)
unfolding rule
tree_makes p m held (Literal at bytes) well known s = push_makes p (here p m held) (tokens.PushBytes bytes) _ (λ s i. refl) s
tree_makes p m held (Int at n) well known s = push_makes p (here p m held) (tokens.PushInt n) _ (λ s i. refl) s
tree_makes p m held (OptionValue at code) well known s = push_makes p (here p m held) (tokens.PushOption code) _ (λ s i. refl) s
tree_makes p m held (RelayValue at code) well known s = push_makes p (here p m held) (tokens.PushRelay code) _ (λ s i. refl) s
tree_makes p m held (FieldValue at field) well known s =
    push_makes p (here p m held) (tokens.PushField field) (value_of_field m field) (λ s i. refl) s
tree_makes p m held (OptionExists at code) well known s = push_makes p (here p m held) (tokens.OptionExists code) _ (λ s i. refl) s
tree_makes p m held (RelayExists at code) well known s = push_makes p (here p m held) (tokens.RelayExists code) _ (λ s i. refl) s
tree_makes p m held (Member at name) well known s = push_makes p (here p m held) (tokens.Member (index_of name p.names)) _ (member_moves p m held name known) s
tree_makes p m held (Equal at a b) well known s =
    two_make p m held a b tokens.Equal _ well.0.0 well.0.1 well.1.0 well.1.1 (tree_makes p m held a well.0.1 known.0) (tree_makes p m held b well.1.1 known.1) (λ s i. refl) s
tree_makes p m held (Not at a) well known s =
    makes_both p (here p m held) (code_of p.names a) (tokens.Not ∷ []) s (Truth (truth_in (value m held a)) ∷ s) (value m held (Not at a) ∷ s)
    (truth_makes p m held a well.0 well.1 (tree_makes p m held a well.1 known) s)
    (makes_one p (here p m held) tokens.Not _ _ (λ i. refl))
tree_makes p m held (And at a b) well known s =
    and_makes p (here p m held) (code_of p.names a) (code_of p.names b) s (truth_in (value m held a)) (truth_in (value m held b)) (size b) (sym (code_length p.names b))
    (truth_makes p m held a well.0.0 well.0.1 (tree_makes p m held a well.0.1 known.0) s)
    (truth_makes p m held b well.1.0 well.1.1 (tree_makes p m held b well.1.1 known.1) s)
tree_makes p m held (Or at a b) well known s =
    or_makes p (here p m held) (code_of p.names a) (code_of p.names b) s (truth_in (value m held a)) (truth_in (value m held b)) (size b) (sym (code_length p.names b))
    (truth_makes p m held a well.0.0 well.0.1 (tree_makes p m held a well.0.1 known.0) s)
    (truth_makes p m held b well.1.0 well.1.1 (tree_makes p m held b well.1.1 known.1) s)
tree_makes p m held (Group at a) well known s = tree_makes p m held a well.1 known s
tree_makes p m held (Concat at a b) well known s =
    two_make p m held a b tokens.Concat _ well.0.0 well.0.1 well.1.0 well.1.1 (tree_makes p m held a well.0.1 known.0) (tree_makes p m held b well.1.1 known.1) (λ s i. refl) s
tree_makes p m held (IfElse at t a b) well known s =
    let first = operand_length p.names a in
    let second = operand_length p.names b in
    arms_make p (here p m held) (code_of p.names t) (code_of p.names a ++ in_bytes a) (code_of p.names b ++ in_bytes b) s (truth_in (value m held t)) (bytes_in (value m held a)) (bytes_in (value m held b)) (size a + four_more a + 1) (size b + four_more b)
    (omega (arith, first)) (sym second)
    (truth_makes p m held t well.0.0 well.0.1 (tree_makes p m held t well.0.1 known.0) s)
    (bytes_make p m held a well.1.0 well.1.1 (tree_makes p m held a well.1.1 known.1) s)
    (bytes_make p m held b well.2.0 well.2.1 (tree_makes p m held b well.2.1 known.2) s)
tree_makes p m held (Substring at a start count) well known s = one_makes p m held a (tokens.Substring start count) _ well.0 well.1 (tree_makes p m held a well.1 known) (λ s i. refl) s
tree_makes p m held (HexString at a b) well known s =
    two_make p m held a b tokens.HexString _ well.0.0 well.0.1 well.1.0 well.1.1 (tree_makes p m held a well.0.1 known.0) (tree_makes p m held b well.1.1 known.1) (λ s i. refl) s
tree_makes p m held (Lower at a) well known s = one_makes p m held a tokens.Lower _ well.0 well.1 (tree_makes p m held a well.1 known) (λ s i. refl) s
tree_makes p m held (Upper at a) well known s = one_makes p m held a tokens.Upper _ well.0 well.1 (tree_makes p m held a well.1 known) (λ s i. refl) s
tree_makes p m held (IntToText at a) well known s =
    makes_both p (here p m held) (code_of p.names a) (tokens.IntToText ∷ []) s (Number (number_in (value m held a)) ∷ s) (value m held (IntToText at a) ∷ s)
    (number_makes p m held a well.0 well.1 (tree_makes p m held a well.1 known) s)
    (makes_one p (here p m held) tokens.IntToText _ _ (λ i. refl))
