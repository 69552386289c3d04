-- A part of a part of a list is a part of the list.
use Rattle.std.proofs.Common.{◌≡◌, ℕ, zero, suc, ◌+◌, ◌-◌, ◌≤◌, List, [], ◌∷◌, length, take, drop, slice_range, refl, sym, ap, ◌∙◌, arith}
use Rattle.std.proofs.lemmas.List.{length-take}

take_less : {A : Type 0} (xs : List A) (n k : ℕ) → k ≤ n → take k (take n xs) ≡ take k xs
take_less xs n zero le = refl
take_less [] zero (suc k) le = refl
take_less [] (suc n) (suc k) le = refl
take_less (x ∷ xs) zero (suc k) le = absurd (omega (arith, le))
take_less (x ∷ xs) (suc n) (suc k) le = ap (λ ys. x ∷ ys) (take_less xs n k (omega (arith, le)))

take_inner : {A : Type 0} (xs : List A) (n f k : ℕ) → f + k ≤ n → take k (drop f (take n xs)) ≡ take k (drop f xs)
take_inner xs n zero k le = take_less xs n k (omega (arith, le))
take_inner [] zero (suc f) k le = refl
take_inner [] (suc n) (suc f) k le = refl
take_inner (x ∷ xs) zero (suc f) k le = absurd (omega (arith, le))
take_inner (x ∷ xs) (suc n) (suc f) k le = take_inner xs n f k (omega (arith, le))

drop_twice : {A : Type 0} (xs : List A) (s f : ℕ) → drop f (drop s xs) ≡ drop (f + s) xs
drop_twice xs zero f = let e : f + zero ≡ f = omega arith in ap (λ n. drop n xs) (sym e)
drop_twice [] (suc s) zero = let e : zero + suc s ≡ suc s = omega arith in rw e refl
drop_twice [] (suc s) (suc f) = let e : suc f + suc s ≡ suc (f + suc s) = omega arith in rw e refl
drop_twice (x ∷ xs) (suc s) f = let e : f + suc s ≡ suc (f + s) = omega arith in rw e (drop_twice xs s f)

-- the part from one place to another of the part from one to another
pub narrowed : (xs : List ℕ) (s e f t : ℕ) → f ≤ t → t ≤ length (slice_range xs s e) → slice_range (slice_range xs s e) f t ≡ slice_range xs (s + f) (s + t)
narrowed xs s e f t order within =
    let size = length-take (e - s) (drop s xs) in
    let inner = take_inner (drop s xs) (e - s) f (t - f) (omega (arith, order, within, size)) in
    let outer = ap (take (t - f)) (drop_twice xs s f) in
    let place : f + s ≡ s + f = omega arith in
    let count : t - f ≡ s + t - (s + f) = omega arith in
    inner ∙ outer ∙ ap (λ n. take (t - f) (drop n xs)) place ∙ ap (λ n. take n (drop (s + f) xs)) count
