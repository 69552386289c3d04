-- The rest of a list from a place on, tested element by element.
use Rattle.std.proofs.Common.{◌≡◌, ℕ, ◌+◌, ◌<◌, ◌≤◌, get_or, Bool, true, false, List, ◌∷◌, length, drop, Some, None, sym, ap, ◌∙◌, inl, inr}
use Rattle.std.specs.Prelude.{◌⊎◌, ◌&&◌, slice_get}
use Rattle.std.specs.List.{list_all}
use Rattle.std.proofs.lemmas.List.{at_drop_all, drop_more}
use Rattle.std.proofs.lemmas.Option.{get_or_from_slice_get, slice_get_cases, slice_get_within}

-- the rest from a place is the element there and the elements after it
pub left_at : {X : Type 0} (xs : List X) (i : ℕ) (x : X) → slice_get xs i ≡ Some x → drop i xs ≡ x ∷ drop (i + 1) xs
left_at xs i x e = drop_more xs i x (slice_get_within xs i x e) ∙ ap (λ y. y ∷ drop (i + 1) xs) (get_or_from_slice_get xs i x x e)

past : {X : Type 0} (xs : List X) (i : ℕ) → slice_get xs i ≡ None → length xs ≤ i
past {X = X} xs i e = by (slice_get_cases xs i).1 where
  wrong : (x : X) → Some x ≡ None → ⊥
  wrong x same = cc

  by : ((x : X) × (i < length xs) × (slice_get xs i ≡ Some x) × (get_or xs i x ≡ x)) ⊎ ((length xs ≤ i) × (slice_get xs i ≡ None)) → length xs ≤ i
  by (inl there) = absurd (wrong there.0 (sym there.2 ∙ e))
  by (inr behind) = behind.0

-- if an element passes, the result is that of the elements after it
pub passes_at : {X : Type 0} (test : X → Bool) (xs : List X) (i : ℕ) (x : X) → slice_get xs i ≡ Some x → test x ≡ true → list_all test (drop (i + 1) xs) ≡ list_all test (drop i xs)
passes_at test xs i x e passes = sym (ap (list_all test) (left_at xs i x e) ∙ ap (λ b. b && list_all test (drop (i + 1) xs)) passes)

-- if an element fails, the result is false
pub fails_at : {X : Type 0} (test : X → Bool) (xs : List X) (i : ℕ) (x : X) → slice_get xs i ≡ Some x → test x ≡ false → list_all test (drop i xs) ≡ false
fails_at test xs i x e fails = ap (list_all test) (left_at xs i x e) ∙ ap (λ b. b && list_all test (drop (i + 1) xs)) fails

-- past the end there is no element
pub ends_at : {X : Type 0} (test : X → Bool) (xs : List X) (i : ℕ) → slice_get xs i ≡ None → list_all test (drop i xs) ≡ true
ends_at test xs i e = at_drop_all (list_all test) xs i (past xs i e)
