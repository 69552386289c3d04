-- The age order.
use Rattle.std.proofs.Common.{◌≡◌, ℕ, Bool, ◌&&◌, ◌||◌, ◌==◌, nat_lt, List, [], ◌∷◌, suc, refl, ap, ◌∙◌, arith}
use Rattle.std.specs.Cmp.Lexicographic.{nat_list_cmp_total, slice_cmp}
use Rattle.std.specs.List.Sorted.{IsSortedBy}
use Rattle.std.specs.Ordering.{is_lt, nat_cmp, ordering_then}
use Rattle.std.specs.declared.cmp.Ordering.{Ordering}
use Rattle.std.specs.declared.cmp.Ordering.TheVariants.{Less, Equal, Greater}
use Rattle.std.proofs.lemmas.Bool.Decides.{nat_tests}
use Rattle.std.proofs.lemmas.Cmp.{tied_itself}
use Rattle.kd_rows.specs.Index.{age_key, key_order}

-- an end comes before every byte
ends : nat_cmp 0 0 ≡ Equal
ends = grind (arith, nat_tests)

end_first : (b : ℕ) → nat_cmp 0 (suc b) ≡ Less
end_first b = grind (arith, nat_tests)

end_last : (b : ℕ) → nat_cmp (suc b) 0 ≡ Greater
end_last b = grind (arith, nat_tests)

sucs : (b e : ℕ) → nat_cmp (suc b) (suc e) ≡ nat_cmp b e
sucs b e = grind (arith, nat_tests)

then_equal : (o : Ordering) → ordering_then o Equal ≡ o
then_equal Less = refl
then_equal Equal = refl
then_equal Greater = refl

regrouped : (o x y z : Ordering) → x ≡ ordering_then y z → ordering_then o x ≡ ordering_then (ordering_then o y) z
regrouped Less x y z e = refl
regrouped Equal x y z e = e
regrouped Greater x y z e = refl

-- by client, by state, by age
pub age_order : (c d : List ℕ) (s u t v : ℕ) → slice_cmp nat_cmp (age_key c s t) (age_key d u v) ≡ ordering_then (slice_cmp nat_cmp c d) (ordering_then (nat_cmp s u) (nat_cmp t v))
age_order [] [] s u t v = rw ends (ap (ordering_then (nat_cmp s u)) (then_equal (nat_cmp t v)))
age_order [] (e ∷ d) s u t v = rw (end_first e) refl
age_order (b ∷ c) [] s u t v = rw (end_last b) refl
age_order (b ∷ c) (e ∷ d) s u t v = rw (sucs b e) (regrouped (nat_cmp b e) _ (slice_cmp nat_cmp c d) _ (age_order c d s u t v))

-- the order of whole keys
pub age_key_order : (c d : List ℕ) (s u t v a b : ℕ) → key_order (age_key c s t, a) (age_key d u v, b) ≡ ordering_then (ordering_then (slice_cmp nat_cmp c d) (ordering_then (nat_cmp s u) (nat_cmp t v))) (nat_cmp a b)
age_key_order c d s u t v a b = ap (λ (o : Ordering). ordering_then o (nat_cmp a b)) (age_order c d s u t v)

-- an age comes before another, or is the same and has the lower address
abbrev pub comes_first : ℕ → ℕ → ℕ → ℕ → Bool
comes_first t a v b = nat_lt t v || ((t == v) && nat_lt a b)

by_age : (t v a b : ℕ) → is_lt (ordering_then (nat_cmp t v) (nat_cmp a b)) ≡ comes_first t a v b
by_age t v a b = grind (arith, nat_tests)

-- for keys of one client and state the age decides
pub same_group : (c : List ℕ) (s t v a b : ℕ) → is_lt (key_order (age_key c s t, a) (age_key c s v, b)) ≡ comes_first t a v b
same_group c s t v a b =
    ap is_lt (age_key_order c c s s t v a b ∙ ap (λ (o : Ordering). ordering_then (ordering_then o (ordering_then (nat_cmp s s) (nat_cmp t v))) (nat_cmp a b)) (tied_itself nat_list_cmp_total c)
    ∙ ap (λ (o : Ordering). ordering_then (ordering_then o (nat_cmp t v)) (nat_cmp a b)) (alike s))
    ∙ by_age t v a b where
      alike : (s : ℕ) → nat_cmp s s ≡ Equal
      alike s = grind (arith, nat_tests)

-- a list that is sorted by a test is sorted by any test with the same results
pub sorted_alike : {X : Type 0} (f g : X → X → Bool) → ((x y : X) → g x y ≡ f x y) → (xs : List X) → IsSortedBy f xs → IsSortedBy g xs
sorted_alike f g same xs sorted = λ k d low inside. same _ _ ∙ sorted k d low inside
