-- If no two neighbours of sorted ranges share an address, no two ranges do.
use Rattle.std.proofs.Common.{◌≡◌, ℕ, ◌+◌, ◌-◌, ◌<◌, ◌≤◌, Bool, true, false, not, ◌&&◌, List, [], ◌∷◌, length, get_or, refl, sym, ◌∙◌, ap, subst, arith}
use Rattle.std.specs.Prelude.{◌||◌, nat_lt}
use Rattle.std.specs.List.{IsDistinct, list_any, AllByRecursion}
use Rattle.std.specs.List.Sorted.{IsPermutation, IsNonDecreasingBy}
use Rattle.std.proofs.lemmas.Bool.Decides.{nat_tests}
use Rattle.std.proofs.lemmas.List.{get_or_default}
use borrow.Author.Tests.{ltb-true, ltb-false}
use Rattle.std.proofs.lemmas.List.Sorted.{IsPermutation-sym}
use Rattle.std.proofs.lemmas.Map.Keys.{IsDistinct-from_apart, IsDistinct-IsPermutation, IsDistinct-head, IsDistinct-tail, IsDistinct-cons, apart_from_distinct}
use Rattle.kd_config.proofs.Tests.{not_and, or_false}
use Rattle.kd_config.specs.Apart.{lie_apart, has, share_one}
use Rattle.kd_config.specs.declared.range.Range.{Range}

-- a range and its next, a range and the one before it
between_steps : (a b c e : Range) → a.first ≤ b.first → b.first ≤ e.first → a.first ≤ c.first → c.first ≤ e.first → share_one a b ≡ false → share_one c e ≡ false → share_one a e ≡ false
between_steps a b c e p q r s h k = grind (arith, nat_tests)

or_flips : (a b : Bool) → (a || b) ≡ (b || a)
or_flips true true = refl
or_flips true false = refl
or_flips false true = refl
or_flips false false = refl

flips : (a b : Range) → share_one a b ≡ share_one b a
flips a b = or_flips (has a b.first) (has b a.first)

none_shares : (r : Range) (rs : List Range) → AllByRecursion (λ y. share_one r y ≡ false) rs → list_any (share_one r) rs ≡ false
none_shares r [] h = refl
none_shares r (x ∷ rs) h = ap (λ b. b || list_any (share_one r) rs) h.0 ∙ none_shares r rs h.1

each_apart : (r : Range) (rs : List Range) → list_any (share_one r) rs ≡ false → AllByRecursion (λ y. share_one r y ≡ false) rs
each_apart r [] e = tt
each_apart r (x ∷ rs) e = let h = or_false (share_one r x) (list_any (share_one r) rs) e in (h.0, each_apart r rs h.1)

distinct_is : (rs : List Range) → IsDistinct share_one rs → lie_apart rs ≡ true
distinct_is [] h = refl
distinct_is (r ∷ rs) h =
    ap (λ b. not b && lie_apart rs) (none_shares r rs (IsDistinct-head share_one r rs h)) ∙ distinct_is rs (IsDistinct-tail share_one r rs h)

is_distinct : (rs : List Range) → lie_apart rs ≡ true → IsDistinct share_one rs
unfolding IsDistinct
is_distinct [] h = tt
is_distinct (r ∷ rs) h =
    let k = not_and (list_any (share_one r) rs) (lie_apart rs) h in
    IsDistinct-cons share_one r rs (each_apart r rs k.0) (is_distinct rs k.1)

same_truth : (a b : Bool) → (a ≡ true → b ≡ true) → (b ≡ true → a ≡ true) → a ≡ b
same_truth true b f g = sym (f refl)
same_truth false true f g = g refl
same_truth false false f g = refl

-- a list and its permutation are apart alike
pub permuted : (xs ys : List Range) → IsPermutation xs ys → lie_apart ys ≡ lie_apart xs
permuted xs ys p =
    same_truth (lie_apart ys) (lie_apart xs)
    (λ e. distinct_is xs (IsDistinct-IsPermutation share_one flips ys xs (IsPermutation-sym xs ys p) (is_distinct ys e)))
    (λ e. distinct_is ys (IsDistinct-IsPermutation share_one flips xs ys p (is_distinct xs e)))

-- if no two neighbours of a sorted list share an address, no two ranges do
pub steps_apart : (rs : List Range) → IsNonDecreasingBy (λ range. range.first) rs → ((k : ℕ) (d : Range) → k + 1 < length rs → share_one (get_or rs k d) (get_or rs (k + 1) d) ≡ false) → lie_apart rs ≡ true
steps_apart rs rises steps = distinct_is rs (IsDistinct-from_apart share_one rs pair) where
  pair : (i j : ℕ) (d : Range) → i < j → j < length rs → share_one (get_or rs i d) (get_or rs j d) ≡ false
  pair i j d below within =
      let last : j - 1 + 1 ≡ j = omega arith in
      let step : share_one (get_or rs (j - 1) d) (get_or rs j d) ≡ false = subst (λ n. share_one (get_or rs (j - 1) d) (get_or rs n d) ≡ false) last (steps (j - 1) d (omega arith)) in
      between_steps (get_or rs i d) (get_or rs (i + 1) d) (get_or rs (j - 1) d) (get_or rs j d)
      (rises i (i + 1) d (omega arith) (omega arith)) (rises (i + 1) j d (omega arith) within) (rises i (j - 1) d (omega arith) (omega arith)) (rises (j - 1) j d (omega arith) within)
      (steps i d (omega arith)) step

-- if two ranges of a list share an address, not all are apart
step_shared : (rs : List Range) (i j : ℕ) (d : Range) → i < j → j < length rs → share_one (get_or rs i d) (get_or rs j d) ≡ true → lie_apart rs ≡ false
step_shared rs i j d below within e = by (lie_apart rs) refl where
  by : (b : Bool) → lie_apart rs ≡ b → b ≡ false
  by true h = let k = apart_from_distinct share_one rs i j d (is_distinct rs h) below within in absurd (cc)
  by false h = refl

-- one more neighbour
pub more_steps : (rs : List Range) (i : ℕ) (a b : Range) → 1 ≤ i → i < length rs → ((k : ℕ) (d : Range) → k + 1 < i → share_one (get_or rs k d) (get_or rs (k + 1) d) ≡ false)
    → share_one (get_or rs (i - 1) a) (get_or rs i b) ≡ false → (k : ℕ) (d : Range) → k + 1 < i + 1 → share_one (get_or rs k d) (get_or rs (k + 1) d) ≡ false
more_steps rs i a b some within steps here k d below = by (nat_lt (k + 1) i) refl where
  by : (t : Bool) → nat_lt (k + 1) i ≡ t → share_one (get_or rs k d) (get_or rs (k + 1) d) ≡ false
  by true e = steps k d (ltb-true (k + 1) i e)
  by false e =
      let this : k ≡ i - 1 = omega (arith, ltb-false (k + 1) i e) in
      let next : k + 1 ≡ i = omega arith in
      rw (next, this, get_or_default rs (i - 1) d a (omega arith), get_or_default rs i d b within) here

-- if two neighbours share an address, not all are apart
pub any_step_shared : (rs : List Range) (i : ℕ) (a b : Range) → 1 ≤ i → i < length rs → share_one (get_or rs (i - 1) a) (get_or rs i b) ≡ true → lie_apart rs ≡ false
any_step_shared rs i a b some within e =
    step_shared rs (i - 1) i a (omega arith) within (rw (get_or_default rs i a b within) e)
