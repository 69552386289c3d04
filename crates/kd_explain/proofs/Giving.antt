-- Which class is the first that gives something: an option with a code, a value to a boot field, or a
-- lifetime.
use Rattle.std.proofs.Common.{◌≡◌, ℕ, zero, suc, ◌+◌, ◌<◌, ◌≤◌, arith, Bool, false, List, [], ◌∷◌, ◌⊎◌, inl, inr, length, drop, take, Some, refl, sym, ap, ◌∙◌, subst, ⊎_elim}
use Rattle.std.specs.Prelude.{slice_get}
use Rattle.std.proofs.lemmas.List.{at_drop_all}
use Rattle.kd_classes.specs.declared.definition.ClassDef.{ClassDef}
use Rattle.kd_explain.specs.Gift.{class_among_gives}
use Rattle.kd_explain.specs.declared.gift.Gift.{Gift}
use Rattle.kd_explain.specs.declared.gift.Gift.TheVariants as gifts
use Rattle.kd_explain.proofs.Testing.{left_at}

-- where there is no class, none gives it
pub none_given : (gift : Gift) (names : List (List ℕ)) → class_among_gives gift [] names ≡ false
none_given (gifts.Code code) names = refl
none_given (gifts.Field field) names = refl
none_given gifts.Lifetime names = refl

below_or : (j i : ℕ) → j < i + 1 → (j < i) ⊎ (j ≡ i)
below_or j zero h = inr (omega (arith, h))
below_or zero (suc i) h = inl (omega arith)
below_or (suc j) (suc i) h = ⊎_elim (λ l. inl (omega (arith, l))) (λ e. inr (ap suc e)) (below_or j i (omega (arith, h)))

split : (j i : ℕ) → (j < i) ⊎ (i ≤ j)
split j zero = inr (omega arith)
split zero (suc i) = inl (omega arith)
split (suc j) (suc i) = ⊎_elim (λ l. inl (omega (arith, l))) (λ l. inr (omega (arith, l))) (split j i)

-- `of` says whether classes give it
module _ (of : List ClassDef → Bool) (classes : List ClassDef) where
  -- the class at an index gives it
  abbrev pub gives_at : ℕ → Bool
  gives_at i = of (take 1 (drop i classes))

  -- the class at an index gives it if that class alone does
  pub has_at : (i : ℕ) (class : ClassDef) (b : Bool) → Some class ≡ slice_get classes i → b ≡ of (class ∷ []) → gives_at i ≡ b
  has_at i class b at is = ap (λ cs. of (take 1 cs)) (left_at classes i class (sym at)) ∙ sym is

  -- after the last class there is none
  none_past : of [] ≡ false → (j : ℕ) → length classes ≤ j → gives_at j ≡ false
  none_past empty j past = ap (λ cs. of (take 1 cs)) (at_drop_all (λ xs. xs) classes j past) ∙ empty

  -- one more class does not give it
  pub none_on : (i : ℕ) → ((j : ℕ) → j < i → gives_at j ≡ false) → gives_at i ≡ false → (j : ℕ) → j < i + 1 → gives_at j ≡ false
  none_on i earlier here j h =
      ⊎_elim (earlier j) (λ e. subst (λ (k : ℕ). gives_at k ≡ false) (sym e) here) (below_or j i h)

  -- no class gives it if none of the existing ones does
  pub none_at_all : of [] ≡ false → (i : ℕ) → length classes ≤ i → ((j : ℕ) → j < i → gives_at j ≡ false) → (j : ℕ) → gives_at j ≡ false
  none_at_all empty i past earlier j = ⊎_elim (earlier j) (λ h. none_past empty j (omega (arith, h, past))) (split j i)
