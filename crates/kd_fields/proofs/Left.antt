-- Lists of values, read one after another.
use Rattle.std.proofs.Common.{◌≡◌, ℕ, ◌+◌, ◌<◌, List, [], ◌∷◌, ◌++◌, length, get_or, drop, Option, Some, None, refl, sym, ap, ◌∙◌, suc, append_assoc}
use Rattle.std.proofs.lemmas.List.{at_drop_more}
use Rattle.std.specs.Prelude.{option_and_then}
use Rattle.kd_fields.specs.Lists.{all_of}
use Rattle.kd_wire.specs.Steps.{◌>>=◌}
use Rattle.serde_json.specs.Data.{Data, Items, item}
use Rattle.serde_json.specs.Events.{items_len}
use Rattle.serde_json.specs.View.{items_view, view}
use Rattle.serde_json.specs.declared.value.Value.{Value}

-- there are as many items as values
pub len_is : (values : List Value) → items_len (items_view values) ≡ length values
len_is [] = refl
len_is (v ∷ values) = ap suc (len_is values)

-- the value at a place, and those after it
pub value_at : {Y : Type 0} (F : Items → Y) (values : List Value) (i : ℕ) (v : Value)
    → i < length values → v ≡ get_or values i v
    → F (items_view (drop i values)) ≡ F (item (view v) (items_view (drop (i + 1) values)))
value_at F values i v below is =
    at_drop_more (λ (vs : List Value). F (items_view vs)) values i v below
    ∙ ap (λ (x : Value). F (item (view x) (items_view (drop (i + 1) values)))) (sym is)

-- the entries read so far, and after them what the remaining items describe
abbrev pub with_read : {A : Type 0} → (Data → Option A) → List A → Items → Option (List A)
with_read means xs items = option_and_then (λ ys. Some (xs ++ ys)) (all_of means items)

-- if an entry is read, the rest decides
pub entry_read : {A : Type 0} (means : Data → Option A) (values : List Value) (i : ℕ) (v : Value)
    (xs : List A) (x : A) → i < length values → v ≡ get_or values i v → means (view v) ≡ Some x
    → with_read means xs (items_view (drop i values))
    ≡ with_read means (xs ++ x ∷ []) (items_view (drop (i + 1) values))
entry_read {A} means values i v xs x below is e =
    let rest = items_view (drop (i + 1) values) in
    value_at (with_read means xs) values i v below is
    ∙ (ap (λ (o : Option A). option_and_then (λ ys. Some (xs ++ ys))
    (o >>= λ x. all_of means rest >>= λ ys. Some (x ∷ ys))) e
    ∙ joined (all_of means rest)) where
      joined : (o : Option (List A))
          → option_and_then (λ ys. Some (xs ++ ys)) (o >>= λ ys. Some (x ∷ ys))
          ≡ option_and_then (λ ys. Some ((xs ++ x ∷ []) ++ ys)) o
      joined None = refl
      joined (Some ys) = ap Some (sym (append_assoc xs (x ∷ []) ys))

-- if an entry is refused, the list describes nothing
pub entry_refused : {A : Type 0} (means : Data → Option A) (values : List Value) (i : ℕ)
    (v : Value) (xs : List A) → i < length values → v ≡ get_or values i v → means (view v) ≡ None
    → with_read means xs (items_view (drop i values)) ≡ None
entry_refused {A} means values i v xs below is e =
    value_at (with_read means xs) values i v below is
    ∙ ap (λ (o : Option A). option_and_then (λ ys. Some (xs ++ ys))
    (o >>= λ x. all_of means (items_view (drop (i + 1) values)) >>= λ ys. Some (x ∷ ys))) e
