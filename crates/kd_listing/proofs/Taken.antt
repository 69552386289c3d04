-- Lists that are walked from the front.
use Rattle.std.proofs.Common.{◌≡◌, ℕ, zero, suc, ◌+◌, List, [], ◌∷◌, ◌++◌, map, take, Some, None, refl, sym, ap, arith, true≢false, is_some}
use Rattle.std.specs.Prelude.{slice_get}

module _ {X Y : Type 0} (f : X → Y) where
  -- what is made of the entries and one more
  pub map_taken : (list : List X) (i : ℕ) (x : X) → Some x ≡ slice_get list i → map f (take (i + 1) list) ≡ map f (take i list) ++ f x ∷ []
  map_taken [] i x at = absurd (true≢false (ap is_some at))
  map_taken (y ∷ list) zero x at =
      let same : x ≡ y = cc in ap (λ z. f z ∷ []) (sym same)
  map_taken (y ∷ list) (suc i) x at =
      let next : suc i + 1 ≡ suc (i + 1) = omega arith in
      rw next (ap (λ r. f y ∷ r) (map_taken list i x at))

-- the entries and one more
pub one_taken : {X : Type 0} (list : List X) (i : ℕ) (x : X) → Some x ≡ slice_get list i → take (i + 1) list ≡ take i list ++ x ∷ []
one_taken [] i x at = absurd (true≢false (ap is_some at))
one_taken (y ∷ list) zero x at =
    let same : x ≡ y = cc in ap (λ z. z ∷ []) (sym same)
one_taken (y ∷ list) (suc i) x at =
    let next : suc i + 1 ≡ suc (i + 1) = omega arith in
    rw next (ap (λ r. y ∷ r) (one_taken list i x at))

-- after the last entry there are all
pub all_taken : {X : Type 0} (list : List X) (i : ℕ) → None ≡ slice_get list i → take i list ≡ list
all_taken [] zero at = refl
all_taken [] (suc i) at = refl
all_taken (q ∷ list) zero at = absurd (true≢false (ap is_some (sym at)))
all_taken (q ∷ list) (suc i) at = ap (λ x. q ∷ x) (all_taken list i at)
