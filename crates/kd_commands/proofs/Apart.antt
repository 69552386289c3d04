-- Options whose names differ.
use Rattle.std.proofs.Common.{◌≡◌, ◌∙◌, sym, refl, subst, inl, inr, true, false, Bool, List, [], ◌∷◌, ◌++◌}
use Rattle.std.specs.List.{AllByRecursion, IsDistinct}
use Rattle.std.specs.Map.{keys_of}
use Rattle.std.specs.Str.{bytes_eq}
use Rattle.std.proofs.lemmas.Slice.Eq.{bytes_eq-Decides}
use Rattle.clap.specs.Words.{Text}
use Rattle.clap.specs.Walk.{has_row}
use Rattle.kd_commands.specs.Line.{IsOneOf}
use Rattle.kd_commands.proofs.Held.{Value, rows_of}

-- ---- names that differ

in_the_middle : (P : Text → Type 0) (gs os : List (Text × Value)) (o : Text × Value) → AllByRecursion P (keys_of (gs ++ o ∷ os)) → P o.0
in_the_middle P [] os o h = h.0
in_the_middle P (g ∷ gs) os o h = in_the_middle P gs os o h.1

-- an option whose name differs from those before it has no row there
pub apart_from : (gs : List (Text × Value)) (o : Text × Value) (os : List (Text × Value)) → IsDistinct bytes_eq (keys_of (gs ++ o ∷ os))
    → has_row o.0 (rows_of gs) ≡ false
unfolding IsDistinct
apart_from [] o os h = refl
apart_from (g ∷ gs) o os h = rw (in_the_middle (λ y. bytes_eq g.0 y ≡ false) gs os o h.0) (apart_from gs o os h.1)

put_last : (P : Text → Type 0) (gs : List (Text × Value)) (o : Text × Value) → AllByRecursion P (keys_of gs) → P o.0 → AllByRecursion P (keys_of (gs ++ o ∷ []))
put_last P [] o h last = (last, tt)
put_last P (g ∷ gs) o h last = (h.0, put_last P gs o h.1 last)

-- and one that has no row there differs from them
pub apart_more : (gs : List (Text × Value)) (o : Text × Value) → IsDistinct bytes_eq (keys_of gs) → has_row o.0 (rows_of gs) ≡ false
    → IsDistinct bytes_eq (keys_of (gs ++ o ∷ []))
unfolding IsDistinct
apart_more [] o h fresh = (tt, tt)
apart_more (g ∷ gs) o h fresh = go (bytes_eq g.0 o.0) refl (apart_more gs o h.1)
  where
    go : (t : Bool) → bytes_eq g.0 o.0 ≡ t → (has_row o.0 (rows_of gs) ≡ false → IsDistinct bytes_eq (keys_of (gs ++ o ∷ [])))
        → IsDistinct bytes_eq (keys_of (g ∷ gs ++ o ∷ []))
    go true e more = let bad : true ≡ false = rw e at fresh in cc
    go false e more =
        let rest : has_row o.0 (rows_of gs) ≡ false = rw e at fresh in
        (put_last (λ y. bytes_eq g.0 y ≡ false) gs o h.0 e, more rest)

pub flips : (a b : Text) → bytes_eq a b ≡ false → bytes_eq b a ≡ false
flips a b h = go (bytes_eq b a) refl
  where
    go : (t : Bool) → bytes_eq b a ≡ t → t ≡ false
    go true e =
        let is : b ≡ a = (bytes_eq-Decides b a).0 e in
        sym (subst (λ x. bytes_eq x b ≡ true) is ((bytes_eq-Decides b b).1 refl)) ∙ h
    go false e = refl

-- a name that is one of some has what they all have
pub one_has : (P : Text → Type 0) (n : Text) (ns : List Text) → AllByRecursion P ns → IsOneOf n ns → P n
one_has P n [] h one = absurd one
one_has P n (m ∷ ns) h (inl is) = subst P (sym is) h.0
one_has P n (m ∷ ns) h (inr later) = one_has P n ns h.1 later

-- and they all have what each of them has
pub each_has : (P : Text → Type 0) (ns : List Text) → ((n : Text) → IsOneOf n ns → P n) → AllByRecursion P ns
each_has P [] h = tt
each_has P (n ∷ ns) h = (h n (inl refl), each_has P ns (λ m one. h m (inr one)))

pub one_right : (n : Text) (ns fs : List Text) → IsOneOf n fs → IsOneOf n (ns ++ fs)
one_right n [] fs one = one
one_right n (m ∷ ns) fs one = inr (one_right n ns fs one)
