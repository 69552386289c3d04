-- Each name that a class test asks for has an index among the names of its program.
use Rattle.std.proofs.Common.{◌≡◌, ℕ, suc, Bool, true, false, List, [], ◌∷◌, ◌++◌, Some, refl, sym, ap, subst, ◌∙◌}
use Rattle.std.specs.Prelude.{◌||◌, if◌then◌else◌, slice_get}
use Rattle.std.specs.Cmp.Lexicographic.{same_text}
use Rattle.std.proofs.lemmas.Cmp.{nat_list_eq_equiv}
use Rattle.std.proofs.lemmas.List.{append_assoc, append-nil}
use Rattle.kd_compile.specs.Measures.{names_after, names}
use Rattle.kd_compile.specs.Tokens.{index_of}
use Rattle.kd_expr.specs.Tree.{Tree, Literal, Int, OptionValue, RelayValue, FieldValue, OptionExists, RelayExists, Member, Equal, Not, And, Or, Group, Concat, IfElse, Substring, HexString, Lower, Upper, IntToText}
use Rattle.kd_machine.specs.Held.{with_name}
use Rattle.kd_machine.specs.Parts.{same, is_held}

-- a name is at its index
abbrev pub IsPlaced : List (List ℕ) → List ℕ → Type 0
IsPlaced names name = slice_get names (index_of name names) ≡ Some name

-- each name that a tree asks for is at its index
abbrev pub Knows : List (List ℕ) → Tree → Type 0
Knows names (Literal at bytes) = Unit {0}
Knows names (Int at n) = Unit {0}
Knows names (OptionValue at code) = Unit {0}
Knows names (RelayValue at code) = Unit {0}
Knows names (FieldValue at field) = Unit {0}
Knows names (OptionExists at code) = Unit {0}
Knows names (RelayExists at code) = Unit {0}
Knows names (Member at name) = IsPlaced names name
Knows names (Equal at a b) = Knows names a × Knows names b
Knows names (Not at a) = Knows names a
Knows names (And at a b) = Knows names a × Knows names b
Knows names (Or at a b) = Knows names a × Knows names b
Knows names (Group at a) = Knows names a
Knows names (Concat at a b) = Knows names a × Knows names b
Knows names (IfElse at t a b) = Knows names t × Knows names a × Knows names b
Knows names (Substring at a start count) = Knows names a
Knows names (HexString at a b) = Knows names a × Knows names b
Knows names (Lower at a) = Knows names a
Knows names (Upper at a) = Knows names a
Knows names (IntToText at a) = Knows names a

-- a name keeps its index when more names come after
placed_on : (name : List ℕ) (names more : List (List ℕ)) → IsPlaced names name → IsPlaced (names ++ more) name
placed_on name [] more e = absurd (cc)
placed_on name (x ∷ names) more e = by (same name x) (placed_on name names more) e where
  by : (b : Bool) → (IsPlaced names name → IsPlaced (names ++ more) name) → slice_get (x ∷ names) (if b then 0 else suc (index_of name names)) ≡ Some name → slice_get (x ∷ (names ++ more)) (if b then 0 else suc (index_of name (names ++ more))) ≡ Some name
  by true later e = e
  by false later e = later e

-- a name that is one of a list of names is at its index
placed_among : (name : List ℕ) (names : List (List ℕ)) → is_held name names ≡ true → IsPlaced names name
placed_among name [] e = absurd (cc)
placed_among name (x ∷ names) e = by (same name x) refl (placed_among name names) e where
  by : (b : Bool) → same name x ≡ b → (is_held name names ≡ true → IsPlaced names name) → (b || is_held name names) ≡ true → slice_get (x ∷ names) (if b then 0 else suc (index_of name names)) ≡ Some name
  by true told later e = ap Some (sym (same_text name x (sym told)))
  by false told later e = later e

-- a name that is not is at its index after them
placed_behind : (name : List ℕ) (names : List (List ℕ)) → is_held name names ≡ false → IsPlaced (names ++ name ∷ []) name
placed_behind name [] e = by (same name name) (nat_list_eq_equiv.refl name) where
  by : (b : Bool) → b ≡ true → slice_get (name ∷ []) (if b then 0 else 1) ≡ Some name
  by true told = refl
  by false told = absurd (cc)
placed_behind name (x ∷ names) e = by (same name x) (placed_behind name names) e where
  by : (b : Bool) → (is_held name names ≡ false → IsPlaced (names ++ name ∷ []) name) → (b || is_held name names) ≡ false → slice_get (x ∷ (names ++ name ∷ [])) (if b then 0 else suc (index_of name (names ++ name ∷ []))) ≡ Some name
  by true later e = absurd (cc)
  by false later e = later e

placed_with : (name : List ℕ) (names : List (List ℕ)) → IsPlaced (with_name name names) name
placed_with name names = by (is_held name names) refl where
  by : (b : Bool) → is_held name names ≡ b → IsPlaced (if b then names else names ++ name ∷ []) name
  by true e = placed_among name names e
  by false e = placed_behind name names e

-- more names come after the first ones
abbrev Begins : List (List ℕ) → List (List ℕ) → Type 0
Begins names more = (rest : List (List ℕ)) × (more ≡ names ++ rest)

begins_on : (a b c : List (List ℕ)) → Begins a b → Begins b c → Begins a c
begins_on a b c p q = (p.0 ++ q.0, q.1 ∙ ap (λ v. v ++ q.0) p.1 ∙ append_assoc a p.0 q.0)

begins_itself : (names : List (List ℕ)) → Begins names names
begins_itself names = ([], sym (append-nil names))

begins_with : (name : List ℕ) (names : List (List ℕ)) → Begins names (with_name name names)
begins_with name names = by (is_held name names) where
  by : (b : Bool) → Begins names (if b then names else names ++ name ∷ [])
  by true = begins_itself names
  by false = (name ∷ [], refl)

begins_after : (t : Tree) (names : List (List ℕ)) → Begins names (names_after names t)
begins_after (Literal at bytes) names = begins_itself names
begins_after (Int at n) names = begins_itself names
begins_after (OptionValue at code) names = begins_itself names
begins_after (RelayValue at code) names = begins_itself names
begins_after (FieldValue at field) names = begins_itself names
begins_after (OptionExists at code) names = begins_itself names
begins_after (RelayExists at code) names = begins_itself names
begins_after (Member at name) names = begins_with name names
begins_after (Equal at a b) names = begins_on _ _ _ (begins_after a names) (begins_after b (names_after names a))
begins_after (Not at a) names = begins_after a names
begins_after (And at a b) names = begins_on _ _ _ (begins_after a names) (begins_after b (names_after names a))
begins_after (Or at a b) names = begins_on _ _ _ (begins_after a names) (begins_after b (names_after names a))
begins_after (Group at a) names = begins_after a names
begins_after (Concat at a b) names = begins_on _ _ _ (begins_after a names) (begins_after b (names_after names a))
begins_after (IfElse at t a b) names =
    begins_on _ _ _ (begins_after t names) (begins_on _ _ _ (begins_after a (names_after names t)) (begins_after b (names_after (names_after names t) a)))
begins_after (Substring at a start count) names = begins_after a names
begins_after (HexString at a b) names = begins_on _ _ _ (begins_after a names) (begins_after b (names_after names a))
begins_after (Lower at a) names = begins_after a names
begins_after (Upper at a) names = begins_after a names
begins_after (IntToText at a) names = begins_after a names

knows_behind : (t : Tree) (names more : List (List ℕ)) → Knows names t → Knows (names ++ more) t
knows_behind (Literal at bytes) names more k = tt
knows_behind (Int at n) names more k = tt
knows_behind (OptionValue at code) names more k = tt
knows_behind (RelayValue at code) names more k = tt
knows_behind (FieldValue at field) names more k = tt
knows_behind (OptionExists at code) names more k = tt
knows_behind (RelayExists at code) names more k = tt
knows_behind (Member at name) names more k = placed_on name names more k
knows_behind (Equal at a b) names more k = (knows_behind a names more k.0, knows_behind b names more k.1)
knows_behind (Not at a) names more k = knows_behind a names more k
knows_behind (And at a b) names more k = (knows_behind a names more k.0, knows_behind b names more k.1)
knows_behind (Or at a b) names more k = (knows_behind a names more k.0, knows_behind b names more k.1)
knows_behind (Group at a) names more k = knows_behind a names more k
knows_behind (Concat at a b) names more k = (knows_behind a names more k.0, knows_behind b names more k.1)
knows_behind (IfElse at t a b) names more k = (knows_behind t names more k.0, knows_behind a names more k.1, knows_behind b names more k.2)
knows_behind (Substring at a start count) names more k = knows_behind a names more k
knows_behind (HexString at a b) names more k = (knows_behind a names more k.0, knows_behind b names more k.1)
knows_behind (Lower at a) names more k = knows_behind a names more k
knows_behind (Upper at a) names more k = knows_behind a names more k
knows_behind (IntToText at a) names more k = knows_behind a names more k

-- what a tree knows, it also knows with the names that another tree asks for after it
knows_on : (t u : Tree) (names : List (List ℕ)) → Knows names t → Knows (names_after names u) t
knows_on t u names k =
    let more = begins_after u names in
    let P : List (List ℕ) → Type 0 = λ v. Knows v t in
    subst P (sym more.1) (knows_behind t names more.0 k)

knows_after : (t : Tree) (names : List (List ℕ)) → Knows (names_after names t) t
knows_after (Literal at bytes) names = tt
knows_after (Int at n) names = tt
knows_after (OptionValue at code) names = tt
knows_after (RelayValue at code) names = tt
knows_after (FieldValue at field) names = tt
knows_after (OptionExists at code) names = tt
knows_after (RelayExists at code) names = tt
knows_after (Member at name) names = placed_with name names
knows_after (Equal at a b) names = (knows_on a b _ (knows_after a names), knows_after b (names_after names a))
knows_after (Not at a) names = knows_after a names
knows_after (And at a b) names = (knows_on a b _ (knows_after a names), knows_after b (names_after names a))
knows_after (Or at a b) names = (knows_on a b _ (knows_after a names), knows_after b (names_after names a))
knows_after (Group at a) names = knows_after a names
knows_after (Concat at a b) names = (knows_on a b _ (knows_after a names), knows_after b (names_after names a))
knows_after (IfElse at t a b) names =
    (knows_on t b _ (knows_on t a _ (knows_after t names)), knows_on a b _ (knows_after a (names_after names t)), knows_after b (names_after (names_after names t) a))
knows_after (Substring at a start count) names = knows_after a names
knows_after (HexString at a b) names = (knows_on a b _ (knows_after a names), knows_after b (names_after names a))
knows_after (Lower at a) names = knows_after a names
knows_after (Upper at a) names = knows_after a names
knows_after (IntToText at a) names = knows_after a names

-- the names of a tree include each that it asks for
pub names_known : (t : Tree) → Knows (names t) t
names_known t = knows_after t []
