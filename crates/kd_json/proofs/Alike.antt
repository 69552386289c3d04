-- Definitions that ask alike are in order alike.
use Rattle.std.proofs.Common.{◌≡◌, ℕ, zero, suc, ◌<◌, ◌≤◌, Bool, ◌&&◌, ◌||◌, List, [], ◌∷◌, ◌++◌, length, take, Some, refl, sym, ap, subst, ◌∙◌}
use Rattle.std.specs.Prelude.{slice_get}
use Rattle.std.specs.List.{list_all}
use Rattle.kd_classes.specs.Order.{AreInOrder, IsInOrder, asked, built_in, known_after, named_among}
use Rattle.kd_classes.specs.declared.definition.ClassDef.{ClassDef}
use Rattle.kd_json.specs.Alike.{AskAlike, AsksAlike}

alike_length : (xs ys : List ClassDef) → AskAlike xs ys → length xs ≡ length ys
alike_length [] [] h = refl
alike_length [] (b ∷ ys) h = absurd h
alike_length (a ∷ xs) [] h = absurd h
alike_length (a ∷ xs) (b ∷ ys) h = ap suc (alike_length xs ys h.1)

alike_take : (i : ℕ) (xs ys : List ClassDef) → AskAlike xs ys → AskAlike (take i xs) (take i ys)
alike_take zero xs ys h = tt
alike_take (suc i) [] [] h = tt
alike_take (suc i) [] (b ∷ ys) h = absurd h
alike_take (suc i) (a ∷ xs) [] h = absurd h
alike_take (suc i) (a ∷ xs) (b ∷ ys) h = (h.0, alike_take i xs ys h.1)

or_alike : (x t u : Bool) → t ≡ u → (x || t) ≡ (x || u)
or_alike x t u e = ap (λ v. x || v) e

-- they have the same names
alike_named : (name : List ℕ) (xs ys : List ClassDef) → AskAlike xs ys → named_among name xs ≡ named_among name ys
alike_named name [] [] h = refl
alike_named name [] (b ∷ ys) h = absurd h
alike_named name (a ∷ xs) [] h = absurd h
alike_named name (a ∷ xs) (b ∷ ys) h =
    ap (λ n. named_among name (record { name = n; test = a.test; options = a.options; boot = a.boot; lifetime = a.lifetime } ∷ xs)) h.0.name
    ∙ or_alike _ (named_among name xs) (named_among name ys) (alike_named name xs ys h.1)

-- the same names are known after them
alike_known : (names : List (List ℕ)) (xs ys : List ClassDef) → AskAlike xs ys → list_all (known_after xs) names ≡ list_all (known_after ys) names
alike_known [] xs ys h = refl
alike_known (n ∷ names) xs ys h =
    ap (λ t. (built_in n || t) && list_all (known_after xs) names) (alike_named n xs ys h) ∙ ap (λ t. known_after ys n && t) (alike_known names xs ys h)

-- a definition at a place, and the one that asks alike there
pub record IsAlikeAt (xs : List ClassDef) (i : ℕ) (b : ClassDef) : Type 0 where
  pub a : ClassDef
  pub at : slice_get xs i ≡ Some a
  pub alike : AsksAlike a b

some_same : (x y : ClassDef) → Some x ≡ Some y → x ≡ y
some_same x y e = cc

alike_at : (i : ℕ) (xs ys : List ClassDef) (def : ClassDef) → AskAlike xs ys → slice_get ys i ≡ Some def → IsAlikeAt xs i def
alike_at i xs [] def h e = absurd (cc)
alike_at i [] (b ∷ ys) def h e = absurd h
alike_at zero (a ∷ xs) (b ∷ ys) def h e = record { a = a; at = refl; alike = subst (λ x. AsksAlike a x) (some_same b def e) h.0 }
alike_at (suc i) (a ∷ xs) (b ∷ ys) def h e = let k = alike_at i xs ys def h.1 e in record { a = k.a; at = k.at; alike = k.alike }

alike_order : (xs ys : List ClassDef) (a b : ClassDef) → AskAlike xs ys → AsksAlike a b → IsInOrder xs a → IsInOrder ys b
alike_order xs ys a b h k order = record {
  own = sym (ap (λ n. named_among n xs) k.name ∙ alike_named b.name xs ys h) ∙ order.own;
  known = sym (ap (λ names. list_all (known_after xs) names) k.asks ∙ alike_known (asked b) xs ys h) ∙ order.known;
}

pub in_order_alike : (xs ys : List ClassDef) → AskAlike xs ys → AreInOrder xs → AreInOrder ys
in_order_alike xs ys h order = record { few = subst (λ n. n ≤ 256) (alike_length xs ys h) order.few; each = each } where
  each : (i : ℕ) (def : ClassDef) → i < length ys → slice_get ys i ≡ Some def → IsInOrder (take i ys) def
  each i def below e =
      let k = alike_at i xs ys def h e in
      alike_order (take i xs) (take i ys) k.a def (alike_take i xs ys h) k.alike (order.each i k.a (subst (λ n. i < n) (sym (alike_length xs ys h)) below) k.at)

pub alike_behind : (xs ys : List ClassDef) (a b : ClassDef) → AskAlike xs ys → AsksAlike a b → AskAlike (xs ++ a ∷ []) (ys ++ b ∷ [])
alike_behind [] [] a b h k = (k, tt)
alike_behind [] (y ∷ ys) a b h k = absurd h
alike_behind (x ∷ xs) [] a b h k = absurd h
alike_behind (x ∷ xs) (y ∷ ys) a b h k = (h.0, alike_behind xs ys a b h.1 k)
