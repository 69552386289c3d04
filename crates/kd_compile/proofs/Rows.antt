-- A list of items that occurs somewhere in a list.
use Rattle.std.proofs.Common.{◌≡◌, ℕ, suc, ◌+◌, List, [], ◌∷◌, ◌++◌, length, Option, Some, refl, subst, arith}
use Rattle.std.specs.Prelude.{slice_get}

-- a list occurs in a map from index i on
abbrev pub HasAt : {X : Type 0} → (ℕ → Option X) → ℕ → List X → Type 0
HasAt f i [] = Unit {0}
HasAt f i (x ∷ xs) = (f i ≡ Some x) × HasAt f (i + 1) xs

pub has_at_same : {X : Type 0} (f : ℕ → Option X) (i k : ℕ) (xs : List X) → i ≡ k → HasAt f i xs → HasAt f k xs
has_at_same f i k xs e h = let P : ℕ → Type 0 = λ n. HasAt f n xs in subst P e h

pub has_front : {X : Type 0} (f : ℕ → Option X) (i : ℕ) (xs ys : List X) → HasAt f i (xs ++ ys) → HasAt f i xs
has_front f i [] ys h = tt
has_front f i (x ∷ xs) ys h = (h.0, has_front f (i + 1) xs ys h.1)

pub has_back : {X : Type 0} (f : ℕ → Option X) (i : ℕ) (xs ys : List X) → HasAt f i (xs ++ ys) → HasAt f (i + length xs) ys
has_back f i [] ys h = has_at_same f i (i + 0) ys (omega arith) h
has_back f i (x ∷ xs) ys h = has_at_same f (i + 1 + length xs) (i + suc (length xs)) ys (omega arith) (has_back f (i + 1) xs ys h.1)

has_later : {X : Type 0} (x : X) (list : List X) (i : ℕ) (xs : List X) → HasAt (slice_get list) i xs → HasAt (slice_get (x ∷ list)) (i + 1) xs
has_later x list i [] h = tt
has_later x list i (y ∷ xs) h =
    let next : suc i ≡ i + 1 = omega arith in
    let P : ℕ → Type 0 = λ n. slice_get (x ∷ list) n ≡ Some y in
    (subst P next h.0, has_later x list (i + 1) xs h.1)

-- a list occurs in itself
pub has_itself : {X : Type 0} (list : List X) → HasAt (slice_get list) 0 list
has_itself [] = tt
has_itself (x ∷ list) = (refl, has_later x list 0 list (has_itself list))
