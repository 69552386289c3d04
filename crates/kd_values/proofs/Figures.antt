-- Numbers that are read digit by digit.
use Rattle.std.proofs.Common.{◌≡◌, ◌∙◌, ℕ, zero, suc, ◌+◌, ◌*◌, ◌<◌, ◌≤◌, List, [], ◌∷◌, length, drop, get_or, Option, Some, None, if◌then◌else◌, nat_lt, refl, ap, subst, arith, le-ltb, ltb-true, suc-mul, option_and_then}
use Rattle.std.proofs.lemmas.List.{drop_more}
use Rattle.std.proofs.lemmas.Option.{cond_some, none-some}
use Rattle.hex.specs.Hex.{hex_digit_value}
use Rattle.kd_values.specs.Numbers.{digit_in, if_below, number_behind}

-- a digit is below its base
pub digit_small : (base c d : ℕ) → digit_in base c ≡ Some d → d < base
digit_small base c d is = by (hex_digit_value c) is
  where
    by : (o : Option ℕ) → option_and_then (λ e. if nat_lt e base then Some e else None) o ≡ Some d → d < base
    by None h = absurd (none-some d h)
    by (Some e) h = let p = cond_some (nat_lt e base) e d h in subst (λ v. v < base) p.1 (ltb-true e base p.0)

-- a number does not get smaller when a digit follows it
not_smaller : (base n d : ℕ) → d < base → n ≤ base * n + d
not_smaller zero n d less = absurd (omega (arith, less))
not_smaller (suc b) n d less = omega (arith, suc-mul b n)

-- nor when more digits do
pub too_large : (base limit : ℕ) (digits : List ℕ) (n : ℕ) → limit ≤ n → if_below limit (number_behind base n digits) ≡ None
too_large base limit [] n large = rw (le-ltb n limit large) refl
too_large base limit (c ∷ digits) n large = by (digit_in base c) refl (too_large base limit digits)
  where
    by : (o : Option ℕ) → digit_in base c ≡ o → ((m : ℕ) → limit ≤ m → if_below limit (number_behind base m digits) ≡ None)
        → if_below limit (option_and_then (λ d. number_behind base (base * n + d) digits) o) ≡ None
    by None at more = refl
    by (Some d) at more = more (base * n + d) (omega (arith, large, not_smaller base n d (digit_small base c d at)))

-- a step over a digit
pub one_more : (base n : ℕ) (digits : List ℕ) (i d : ℕ) → i < length digits → digit_in base (get_or digits i 0) ≡ Some d → number_behind base n (drop i digits) ≡ number_behind base (base * n + d) (drop (i + 1) digits)
one_more base n digits i d less is =
    ap (number_behind base n) (drop_more digits i 0 less)
    ∙ ap (option_and_then (λ e. number_behind base (base * n + e) (drop (i + 1) digits))) is

-- a step that is no digit
pub no_digit : (base n : ℕ) (digits : List ℕ) (i : ℕ) → i < length digits → digit_in base (get_or digits i 0) ≡ None → number_behind base n (drop i digits) ≡ None
no_digit base n digits i less is =
    ap (number_behind base n) (drop_more digits i 0 less)
    ∙ ap (option_and_then (λ e. number_behind base (base * n + e) (drop (i + 1) digits))) is
