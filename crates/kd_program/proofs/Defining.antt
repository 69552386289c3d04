-- The definition of a class is found by going through the definitions.
use Rattle.std.proofs.Common.{◌≡◌, ℕ, zero, suc, ◌+◌, ◌≤◌, arith, length, List, [], ◌∷◌, drop, Some, None, is_some, if◌then◌else◌, true, false, true≢false, refl, ap, sym, ◌∙◌}
use Rattle.std.specs.Prelude.{slice_get}
use Rattle.std.specs.List.{find}
use Rattle.std.specs.Str.{bytes_eq}
use Rattle.kd_classes.specs.declared.definition.ClassDef.{ClassDef}
use Rattle.kd_program.specs.Advice.{defined}

-- the list from a place on begins with what is there
left_at : {X : Type 0} (xs : List X) (i : ℕ) (x : X) → slice_get xs i ≡ Some x → drop i xs ≡ x ∷ drop (i + 1) xs
left_at [] i x at = absurd (true≢false (sym (ap is_some at)))
left_at (y ∷ xs) zero x at =
    let first : y ≡ x = cc in ap (λ z. z ∷ xs) first
left_at (y ∷ xs) (suc i) x at =
    let next : suc i + 1 ≡ suc (i + 1) = omega arith in
    rw next (left_at xs i x at)

-- after the last place nothing is left
none_at : {X : Type 0} (xs : List X) (i : ℕ) → slice_get xs i ≡ None → drop i xs ≡ []
none_at [] zero at = refl
none_at [] (suc i) at = refl
none_at (y ∷ xs) zero at = absurd (true≢false (ap is_some at))
none_at (y ∷ xs) (suc i) at = none_at xs i at

past_all : {X : Type 0} (xs : List X) (i : ℕ) → length xs ≤ i → drop i xs ≡ []
past_all [] zero past = refl
past_all [] (suc i) past = refl
past_all (y ∷ xs) zero past = absurd (omega (arith, past))
past_all (y ∷ xs) (suc i) past = past_all xs i (omega (arith, past))

module _ (classes : List ClassDef) (name : List ℕ) (i : ℕ) where
  -- what is found from a place on, if the definition there has another name
  pub defined_later : (def : ClassDef) → slice_get classes i ≡ Some def → bytes_eq name def.name ≡ false → defined (drop i classes) name ≡ defined (drop (i + 1) classes) name
  defined_later def at other =
      ap (λ cs. defined cs name) (left_at classes i def at) ∙ ap (λ b. if b then Some def else find (λ d. bytes_eq name d.name) (drop (i + 1) classes)) other

  -- if it has the name
  pub defined_here : (def : ClassDef) → slice_get classes i ≡ Some def → bytes_eq name def.name ≡ true → defined (drop i classes) name ≡ Some def
  defined_here def at its =
      ap (λ cs. defined cs name) (left_at classes i def at) ∙ ap (λ b. if b then Some def else find (λ d. bytes_eq name d.name) (drop (i + 1) classes)) its

  -- and if there is none
  pub defined_nowhere : slice_get classes i ≡ None → defined (drop i classes) name ≡ None
  defined_nowhere at = ap (λ cs. defined cs name) (none_at classes i at)

  -- or past the last
  pub defined_past : length classes ≤ i → defined (drop i classes) name ≡ None
  defined_past past = ap (λ cs. defined cs name) (past_all classes i past)
