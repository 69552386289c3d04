-- Numbers in decimal read back.
use Rattle.std.proofs.Common.{◌≡◌, ◌∙◌, ℕ, ◌+◌, ◌*◌, ◌/◌, ◌%◌, ◌^◌, ◌≤◌, ◌<◌, false, List, [], ◌∷◌, ◌++◌, length, Option, Some, None, decimal, option_and_then, refl, ap, arith, ne_eqb, lt-ltb}
use Rattle.std.specs.Prelude.{◌==◌}
use Rattle.std.specs.List.{AllByRecursion}
use Rattle.std.proofs.lemmas.Bool.{and_right}
use Rattle.std.proofs.lemmas.Bool.Decides.{nat_tests}
use Rattle.std.proofs.lemmas.Fmt.{decimal_by_steps, decimal_nonempty}
use Rattle.kd_values.specs.Numbers.{based_number, digit_in, if_below, number_behind, number_below, number_given, without_plus}
use Rattle.kd_values.proofs.Trims.{AreInner, is_inner}

-- a decimal digit
abbrev pub IsFigure : ℕ → Type 0
IsFigure c = (48 ≤ c) × (c ≤ 57)

abbrev pub AreFigures : List ℕ → Type 0
AreFigures digits = AllByRecursion IsFigure digits

pub figures_append : (xs ys : List ℕ) → AreFigures xs → AreFigures ys → AreFigures (xs ++ ys)
figures_append [] ys p q = q
figures_append (x ∷ xs) ys p q = (p.0, figures_append xs ys p.1 q)

pub figures_inner : (digits : List ℕ) → AreFigures digits → AreInner digits
figures_inner [] p = tt
figures_inner (c ∷ digits) p = (is_inner c (omega (arith, p.0.0)) (λ e. absurd (omega (arith, e, p.0.0))), figures_inner digits p.1)

digit_value : (d : ℕ) → d < 10 → digit_in 10 (48 + d) ≡ Some d
digit_value d less = grind (arith, nat_tests)

behind_last : (base n : ℕ) (digits : List ℕ) (c : ℕ) → number_behind base n (digits ++ c ∷ []) ≡ option_and_then (λ m. number_behind base m (c ∷ [])) (number_behind base n digits)
behind_last base n [] c = refl
behind_last base n (d ∷ digits) c = by (digit_in base d) (λ m. behind_last base m digits c)
  where
    by : (o : Option ℕ) → ((m : ℕ) → number_behind base m (digits ++ c ∷ []) ≡ option_and_then (λ m. number_behind base m (c ∷ [])) (number_behind base m digits))
        → option_and_then (λ e. number_behind base (base * n + e) (digits ++ c ∷ [])) o ≡ option_and_then (λ m. number_behind base m (c ∷ [])) (option_and_then (λ e. number_behind base (base * n + e) digits) o)
    by None more = refl
    by (Some e) more = more (base * n + e)

-- the digits of a number, and the number that they give
abbrev Reads : ℕ → List ℕ → Type 0
Reads n digits = AreFigures digits × (number_behind 10 0 digits ≡ Some n)

pub decimal_reads : (n : ℕ) → n < 2 ^ 64 → AreFigures (decimal n) × (number_behind 10 0 (decimal n) ≡ Some n)
decimal_reads n small = decimal_by_steps Reads one more n small
  where
    one : (n : ℕ) → n < 10 → Reads n ((48 + n) ∷ [])
    one n less = (((omega arith, omega arith), tt), ap (option_and_then (λ e. Some (10 * 0 + e))) (digit_value n less) ∙ ap Some (omega arith))

    more : (n : ℕ) (digits : List ℕ) → 10 ≤ n → Reads (n / 10) digits → Reads n (digits ++ (48 + n % 10) ∷ [])
    more n digits large reads = (
      figures_append digits ((48 + n % 10) ∷ []) reads.0 ((omega arith, omega arith), tt),
      behind_last 10 0 digits (48 + n % 10)
          ∙ ap (option_and_then (λ m. number_behind 10 m ((48 + n % 10) ∷ []))) reads.1
          ∙ ap (option_and_then (λ e. Some (10 * (n / 10) + e))) (digit_value (n % 10) (omega arith))
          ∙ ap Some (omega arith),
    )

-- figures are no hexadecimal number
figures_are_decimal : (limit : ℕ) (digits : List ℕ) → AreFigures digits → number_below limit digits ≡ based_number 10 limit digits
figures_are_decimal limit [] p = refl
figures_are_decimal limit (a ∷ []) p = refl
figures_are_decimal limit (a ∷ b ∷ digits) p =
    let e1 = ne_eqb b 120 (λ e. absurd (omega (arith, e, p.1.0.1))) in
    let e2 = ne_eqb b 88 (λ e. absurd (omega (arith, e, p.1.0.1))) in
    rw (e1, e2, and_right (a == 48) false refl) refl

pub based_reads : (limit n : ℕ) → n < limit → n < 2 ^ 64 → based_number 10 limit (decimal n) ≡ Some n
unfolding based_number
based_reads limit n less small =
    rw (ne_eqb (length (decimal n)) 0 (λ e. absurd (omega (arith, e, decimal_nonempty n small))))
    (ap (if_below limit) (decimal_reads n small).1 ∙ rw (lt-ltb n limit less) refl)

-- figures have no plus sign before them
pub no_plus : (digits : List ℕ) → AreFigures digits → without_plus digits ≡ digits
no_plus [] p = refl
no_plus (c ∷ digits) p = rw (ne_eqb c 43 (λ e. absurd (omega (arith, e, p.0.0)))) refl

pub below_reads : (limit n : ℕ) → n < limit → n < 2 ^ 64 → number_given limit (decimal n) ≡ Some n
below_reads limit n less small =
    ap (number_below limit) (no_plus (decimal n) (decimal_reads n small).0) ∙ figures_are_decimal limit (decimal n) (decimal_reads n small).0 ∙ based_reads limit n less small
