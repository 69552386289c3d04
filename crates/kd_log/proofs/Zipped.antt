-- Lists side by side, and distinct keys.
use Rattle.std.proofs.Common.{◌≡◌, ℕ, Bool, true, false, List, [], ◌∷◌, ◌++◌, refl, sym, ap}
use Rattle.std.specs.Prelude.{nat_eq, ◌||◌}
use Rattle.std.specs.List.{AllByRecursion, AllZip, IsDistinct, list_any}
use Rattle.std.proofs.lemmas.Bool.{ne_eqb, eqb-false}
use Rattle.std.proofs.lemmas.Map.Keys.{IsDistinct-head, IsDistinct-tail}

pub zip_push : {A B : Type 0} (R : A → B → Type 0) (xs : List A) (ys : List B) (x : A) (y : B) → AllZip R xs ys → R x y → AllZip R (xs ++ x ∷ []) (ys ++ y ∷ [])
zip_push R [] [] x y all here = (here, tt)
zip_push R [] (y' ∷ ys) x y all here = absurd all
zip_push R (x' ∷ xs) [] x y all here = absurd all
zip_push R (x' ∷ xs) (y' ∷ ys) x y all here = (all.0, zip_push R xs ys x y all.1 here)

-- a list beside the concatenation of two lists splits into two parts
pub record Split {A B : Type 0} (R : A → B → Type 0) (xs more : List A) (ys : List B) : Type 0 where
  pub front : List B
  pub back : List B
  pub whole : ys ≡ front ++ back
  pub first : AllZip R xs front
  pub later : AllZip R more back

pub zip_split : {A B : Type 0} (R : A → B → Type 0) (xs more : List A) (ys : List B) → AllZip R (xs ++ more) ys → Split R xs more ys
zip_split R [] more ys all = record { front = []; back = ys; whole = refl; first = tt; later = all }
zip_split R (x ∷ xs) more [] all = absurd all
zip_split R (x ∷ xs) more (y ∷ ys) all =
    let rest = zip_split R xs more ys all.1 in
    record { front = y ∷ rest.front; back = rest.back; whole = ap (λ r. y ∷ r) rest.whole; first = (all.0, rest.first); later = rest.later }

-- a list beside a list that is not empty
pub record Head {A B : Type 0} (R : A → B → Type 0) (x : A) (xs : List A) (ys : List B) : Type 0 where
  pub here : B
  pub back : List B
  pub whole : ys ≡ here ∷ back
  pub is : R x here
  pub later : AllZip R xs back

pub zip_head : {A B : Type 0} (R : A → B → Type 0) (x : A) (xs : List A) (ys : List B) → AllZip R (x ∷ xs) ys → Head R x xs ys
zip_head R x xs [] all = absurd all
zip_head R x xs (y ∷ ys) all = record { here = y; back = ys; whole = refl; is = all.0; later = all.1 }

pub zip_nil : {A B : Type 0} (R : A → B → Type 0) (ys : List B) → AllZip R [] ys → ys ≡ []
zip_nil R [] all = refl
zip_nil R (y ∷ ys) all = absurd all

pub other_way : (a b : ℕ) → nat_eq a b ≡ false → nat_eq b a ≡ false
other_way a b h = ne_eqb b a (λ e. eqb-false a b h (sym e))

apart_at : (x a : ℕ) (xs ys : List ℕ) → AllByRecursion (λ y. nat_eq x y ≡ false) (xs ++ a ∷ ys) → nat_eq x a ≡ false
apart_at x a [] ys all = all.0
apart_at x a (x' ∷ xs) ys all = apart_at x a xs ys all.1

neither : (a b : Bool) → a ≡ false → b ≡ false → (a || b) ≡ false
neither true b h k = absurd (cc)
neither false b h k = k

-- a key among distinct ones is not one of those before it
pub not_before : (xs : List ℕ) (a : ℕ) (ys : List ℕ) → IsDistinct nat_eq (xs ++ a ∷ ys) → list_any (nat_eq a) xs ≡ false
not_before [] a ys apart = refl
not_before (x ∷ xs) a ys apart =
    neither (nat_eq a x) (list_any (nat_eq a) xs) (other_way x a (apart_at x a xs ys (IsDistinct-head nat_eq x (xs ++ a ∷ ys) apart))) (not_before xs a ys (IsDistinct-tail nat_eq x (xs ++ a ∷ ys) apart))
