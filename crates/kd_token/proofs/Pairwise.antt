-- Shapes are met kind by kind, the lowest first.
use Rattle.std.proofs.Common.{◌≡◌, ℕ, zero, suc, ◌+◌, ◌<◌, ◌≤◌, List, [], ◌∷◌, ◌++◌, drop, take, length, Option, Some, None, refl, sym, ap, ◌∙◌, append_assoc, arith}
use Rattle.std.specs.Prelude.{reverse, set, get_or}
use Rattle.std.proofs.lemmas.List.{append-nil, drop_all, reverse-append, take_all}
use Rattle.kd_token.specs.declared.shape.Kind.{Kind}
use Rattle.kd_wire.specs.Steps.{◌>>=◌}
use Rattle.kd_token.specs.Meet.{met_of_kinds, met}

-- kinds met one after another, onto those that are met
abbrev pub met_onto : List Kind → List Kind → List Kind → Option (List Kind)
met_onto [] [] t = Some t
met_onto [] (l ∷ s) t = None
met_onto (k ∷ r) [] t = None
met_onto (k ∷ r) (l ∷ s) t = met_of_kinds k l >>= λ m. met_onto r s (m ∷ t)

swapped : (m : Option Kind) (t : Option (List Kind)) (f : List Kind → Option (List Kind))
    → ((m >>= λ m. t >>= λ t. Some (m ∷ t)) >>= f) ≡ (t >>= λ t. m >>= λ m. f (m ∷ t))
swapped None None f = refl
swapped None (Some t) f = refl
swapped (Some m) None f = refl
swapped (Some m) (Some t) f = refl

just : (t : Option (List Kind)) → t ≡ (t >>= λ t. Some t)
just None = refl
just (Some t) = refl

last_first : (k : Kind) (r a : List Kind) → reverse (k ∷ r) ++ a ≡ reverse r ++ (k ∷ a)
last_first k r a = ap (λ t. t ++ a) (reverse-append (k ∷ []) r) ∙ append_assoc (reverse r) (k ∷ []) a

from_lowest : (r s a b : List Kind) → length r ≡ length s → met (reverse r ++ a) (reverse s ++ b) ≡ (met a b >>= met_onto r s)
from_lowest [] [] a b same = just (met a b)
from_lowest [] (l ∷ s) a b same = absurd (omega (arith, same))
from_lowest (k ∷ r) [] a b same = absurd (omega (arith, same))
from_lowest (k ∷ r) (l ∷ s) a b same =
    rw (last_first k r a, last_first l s b)
    (from_lowest r s (k ∷ a) (l ∷ b) (omega (arith, same)) ∙ swapped (met_of_kinds k l) (met a b) (met_onto r s))

-- shapes of the same height are met from their lowest kinds on
pub met_from_lowest : (r s : List Kind) → length r ≡ length s → met (reverse r) (reverse s) ≡ met_onto r s []
met_from_lowest r s same =
    let e : met (reverse r ++ []) (reverse s ++ []) ≡ met_onto r s [] = from_lowest r s [] [] same in
    rw (sym (append-nil (reverse r)), sym (append-nil (reverse s))) e

-- shapes of different heights do not meet
pub unequal : (r s : List Kind) → (length r ≡ length s → ⊥) → met r s ≡ None
unequal [] [] other = absurd (other refl)
unequal [] (l ∷ s) other = refl
unequal (k ∷ r) [] other = refl
unequal (k ∷ r) (l ∷ s) other = rw (unequal r s (λ e. other (ap suc e))) (no (met_of_kinds k l)) where
  no : (m : Option Kind) → (m >>= λ m. None >>= λ t. Some (m ∷ t)) ≡ None
  no None = refl
  no (Some m) = refl

-- one more kind is met
pub meets_on : (i : ℕ) (r s t : List Kind) (d m : Kind) → i < length r → length r ≡ length s
    → met_of_kinds (get_or r i d) (get_or s i d) ≡ Some m
    → met_onto (drop i r) (drop i s) t ≡ met_onto (drop (i + 1) (set r i m)) (drop (i + 1) s) (m ∷ t)
meets_on i [] s t d m less same is = absurd (omega (arith, less))
meets_on i (x ∷ r) [] t d m less same is = absurd (omega (arith, same))
meets_on zero (x ∷ r) (y ∷ s) t d m less same is = rw is refl
meets_on (suc i) (x ∷ r) (y ∷ s) t d m less same is =
    let next : suc i + 1 ≡ suc (i + 1) = omega arith in
    rw next (meets_on i r s t d m (omega (arith, less)) (omega (arith, same)) is)

-- no kind covers both
pub meets_none : (i : ℕ) (r s t : List Kind) (d : Kind) → i < length r → length r ≡ length s
    → met_of_kinds (get_or r i d) (get_or s i d) ≡ None → met_onto (drop i r) (drop i s) t ≡ None
meets_none i [] s t d less same is = absurd (omega (arith, less))
meets_none i (x ∷ r) [] t d less same is = absurd (omega (arith, same))
meets_none zero (x ∷ r) (y ∷ s) t d less same is = rw is refl
meets_none (suc i) (x ∷ r) (y ∷ s) t d less same is =
    meets_none i r s t d (omega (arith, less)) (omega (arith, same)) is

taken : (i : ℕ) (r : List Kind) (m : Kind) → i < length r → take (i + 1) (set r i m) ≡ take i r ++ m ∷ []
taken i [] m less = absurd (omega (arith, less))
taken zero (x ∷ r) m less = refl
taken (suc i) (x ∷ r) m less =
    let next : suc i + 1 ≡ suc (i + 1) = omega arith in
    rw next (ap (λ t. x ∷ t) (taken i r m (omega (arith, less))))

-- the one that is met comes on top
pub on_top : (i : ℕ) (r : List Kind) (m : Kind) → i < length r → reverse (take (i + 1) (set r i m)) ≡ m ∷ reverse (take i r)
on_top i r m less = ap reverse (taken i r m less) ∙ reverse-append (take i r) (m ∷ [])

-- all are met
pub all_met : (i : ℕ) (r s : List Kind) → length r ≤ i → length r ≡ length s
    → met_onto (drop i r) (drop i s) (reverse (take i r)) ≡ Some (reverse r)
all_met i r s le same = rw (drop_all i r le, drop_all i s (omega (arith, le, same)), take_all i r le) refl
