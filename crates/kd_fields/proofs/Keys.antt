-- The keys of an object, as they are searched.
use Rattle.std.proofs.Common.{◌≡◌, ℕ, Bool, true, false, not, cond, ◌&&◌, List, [], ◌∷◌, map, Option, Some, None, refl, inl, inr, ◌⊎◌, ◌∙◌, Bor, string_bytes, String}
use Rattle.std.specs.Prelude.{is_some}
use Rattle.std.specs.List.{find, list_all}
use Rattle.std.specs.declared.alloc.Global.{Global}
use Rattle.serde_json.specs.Data.{Data, Members}
use Rattle.serde_json.specs.Find.{as_object, get}
use Rattle.serde_json.specs.View.{members_view}
use Rattle.serde_json.specs.declared.value.Value.{Value}
use Rattle.kd_fields.specs.Keys.{is_one_of, is_there}
use Rattle.kd_fields.specs.Steps.{must}
use Rattle.kd_fields.specs.Values.{is_key, are_known, is_object_of, has_keys}

one_of_is : (known : List (Bor (List ℕ))) (key : List ℕ) → is_key (map (λ (k : Bor (List ℕ)). k.now) known) key ≡ is_one_of known key
one_of_is [] key = refl
one_of_is (k ∷ known) key = rw (one_of_is known key) refl

-- nothing is found: neither this one nor any after it
none_here : {A : Type 0} (b : Bool) (x : A) (rest : Option A) → None ≡ cond (not b) (Some x) rest → (b ≡ true) × (None ≡ rest)
none_here true x rest e = (refl, e)
none_here false x rest e = absurd (cc)

-- something is found: this one or one after it
some_here : {A : Type 0} (b : Bool) (x k : A) (rest : Option A) → Some k ≡ cond (not b) (Some x) rest → (b ≡ false) ⊎ (Some k ≡ rest)
some_here true x k rest e = inr e
some_here false x k rest e = inl refl

both_true : (a b : Bool) → a ≡ true → b ≡ true → (a && b) ≡ true
both_true true b e f = f
both_true false b e f = e

one_false : (a b : Bool) → (a ≡ false) ⊎ (b ≡ false) → (a && b) ≡ false
one_false true b (inl e) = absurd (cc)
one_false true b (inr e) = e
one_false false b e = refl

-- if no key is unknown, all are known
all_known : (known : List (Bor (List ℕ))) (entries : List (String Global × Value)) → None ≡ find (λ k. not (is_one_of known (string_bytes k))) (map (λ m. m.0) entries) → are_known (map (λ (k : Bor (List ℕ)). k.now) known) (members_view entries) ≡ true
all_known known [] e = refl
all_known known (m ∷ entries) e =
    let h = none_here (is_one_of known (string_bytes m.0)) m.0 (find (λ k. not (is_one_of known (string_bytes k))) (map (λ m. m.0) entries)) e in
    both_true (is_key (map (λ (k : Bor (List ℕ)). k.now) known) (string_bytes m.0)) (are_known (map (λ (k : Bor (List ℕ)). k.now) known) (members_view entries)) (one_of_is known (string_bytes m.0) ∙ h.0) (all_known known entries h.1)

-- one key is not known
one_unknown : (known : List (Bor (List ℕ))) (entries : List (String Global × Value)) (key : String Global) → Some key ≡ find (λ k. not (is_one_of known (string_bytes k))) (map (λ m. m.0) entries) → are_known (map (λ (k : Bor (List ℕ)). k.now) known) (members_view entries) ≡ false
one_unknown known [] key e = absurd (cc)
one_unknown known (m ∷ entries) key e =
    one_false (is_key (map (λ (k : Bor (List ℕ)). k.now) known) (string_bytes m.0)) (are_known (map (λ (k : Bor (List ℕ)). k.now) known) (members_view entries))
    (by (one_unknown known entries key) (some_here (is_one_of known (string_bytes m.0)) m.0 key (find (λ k. not (is_one_of known (string_bytes k))) (map (λ m. m.0) entries)) e))
  where
    by : (Some key ≡ find (λ k. not (is_one_of known (string_bytes k))) (map (λ m. m.0) entries) → are_known (map (λ (k : Bor (List ℕ)). k.now) known) (members_view entries) ≡ false) → (is_one_of known (string_bytes m.0) ≡ false) ⊎ (Some key ≡ find (λ k. not (is_one_of known (string_bytes k))) (map (λ m. m.0) entries)) → (is_key (map (λ (k : Bor (List ℕ)). k.now) known) (string_bytes m.0) ≡ false) ⊎ (are_known (map (λ (k : Bor (List ℕ)). k.now) known) (members_view entries) ≡ false)
    by behind (inl here) = inl (one_of_is known (string_bytes m.0) ∙ here)
    by behind (inr later) = inr (behind later)

all_there : (d : Data) (required : List (Bor (List ℕ))) → None ≡ find (λ k. not (is_there d k)) required → list_all (λ key. is_some (get key d)) (map (λ (k : Bor (List ℕ)). k.now) required) ≡ true
all_there d [] e = refl
all_there d (k ∷ required) e =
    let h = none_here (is_there d k) k (find (λ k. not (is_there d k)) required) e in
    both_true (is_there d k) (list_all (λ key. is_some (get key d)) (map (λ (k : Bor (List ℕ)). k.now) required)) h.0 (all_there d required h.1)

one_missing : (d : Data) (required : List (Bor (List ℕ))) (key : Bor (List ℕ)) → Some key ≡ find (λ k. not (is_there d k)) required → list_all (λ key. is_some (get key d)) (map (λ (k : Bor (List ℕ)). k.now) required) ≡ false
one_missing d [] key e = absurd (cc)
one_missing d (k ∷ required) key e =
    one_false (is_there d k) (list_all (λ key. is_some (get key d)) (map (λ (k : Bor (List ℕ)). k.now) required)) (by (one_missing d required key) (some_here (is_there d k) k key (find (λ k. not (is_there d k)) required) e))
  where
    by : (Some key ≡ find (λ k. not (is_there d k)) required → list_all (λ key. is_some (get key d)) (map (λ (k : Bor (List ℕ)). k.now) required) ≡ false) → (is_there d k ≡ false) ⊎ (Some key ≡ find (λ k. not (is_there d k)) required) → (is_there d k ≡ false) ⊎ (list_all (λ key. is_some (get key d)) (map (λ (k : Bor (List ℕ)). k.now) required) ≡ false)
    by behind (inl here) = inl here
    by behind (inr later) = inr (behind later)

-- the result of a test of keys
keys_are : (known required : List (List ℕ)) (d : Data) (members : Option Members) (a b : Bool) → members ≡ as_object d → is_object_of known members ≡ a → list_all (λ key. is_some (get key d)) required ≡ b → must (has_keys known required d) ≡ must (a && b)
unfolding has_keys
keys_are known required d members a b e f g = rw (← e, f, g) refl

-- a key is not known
pub refused_unknown : (known required : List (Bor (List ℕ))) (d : Data) (entries : List (String Global × Value)) (key : String Global) → Some (members_view entries) ≡ as_object d → Some key ≡ find (λ k. not (is_one_of known (string_bytes k))) (map (λ m. m.0) entries) → must (has_keys (map (λ (k : Bor (List ℕ)). k.now) known) (map (λ (k : Bor (List ℕ)). k.now) required) d) ≡ None
refused_unknown known required d entries key e f =
    keys_are (map (λ (k : Bor (List ℕ)). k.now) known) (map (λ (k : Bor (List ℕ)). k.now) required) d (Some (members_view entries)) false (list_all (λ key. is_some (get key d)) (map (λ (k : Bor (List ℕ)). k.now) required)) e (one_unknown known entries key f) refl

-- a required key is missing
pub refused_missing : (known required : List (Bor (List ℕ))) (d : Data) (entries : List (String Global × Value)) (key : Bor (List ℕ)) → Some (members_view entries) ≡ as_object d → None ≡ find (λ k. not (is_one_of known (string_bytes k))) (map (λ m. m.0) entries) → Some key ≡ find (λ k. not (is_there d k)) required → must (has_keys (map (λ (k : Bor (List ℕ)). k.now) known) (map (λ (k : Bor (List ℕ)). k.now) required) d) ≡ None
refused_missing known required d entries key e f g =
    keys_are (map (λ (k : Bor (List ℕ)). k.now) known) (map (λ (k : Bor (List ℕ)). k.now) required) d (Some (members_view entries)) true false e (all_known known entries f) (one_missing d required key g)

-- all keys are as required
pub accepted : (known required : List (Bor (List ℕ))) (d : Data) (entries : List (String Global × Value)) → Some (members_view entries) ≡ as_object d → None ≡ find (λ k. not (is_one_of known (string_bytes k))) (map (λ m. m.0) entries) → None ≡ find (λ k. not (is_there d k)) required → must (has_keys (map (λ (k : Bor (List ℕ)). k.now) known) (map (λ (k : Bor (List ℕ)). k.now) required) d) ≡ (Some tt)
accepted known required d entries e f g =
    keys_are (map (λ (k : Bor (List ℕ)). k.now) known) (map (λ (k : Bor (List ℕ)). k.now) required) d (Some (members_view entries)) true true e (all_known known entries f) (all_there d required g)
