-- Decimal numbers: a number does not get smaller when digits follow it.
use Rattle.std.proofs.Common.{◌≡◌, ℕ, suc, ◌+◌, ◌*◌, ◌-◌, ◌<◌, ◌≤◌, ◌^◌, List, [], ◌∷◌, length, drop, get_or, Option, Some, None, if◌then◌else◌, nat_lt, refl, sym, ◌∙◌, ap, subst, arith, le-ltb, drop-cons}
use Rattle.kd_expr.specs.Address.{decimal, decimal_behind}

pub decimal_grows : (n : ℕ) (digits : List ℕ) → n ≤ decimal_behind n digits
decimal_grows n [] = omega arith
decimal_grows n (d ∷ digits) = omega (arith, decimal_grows (10 * n + (d - 48)) digits)

pub too_large : (digits : List ℕ) (i n : ℕ) → i < length digits → decimal_behind n (drop i digits) ≡ decimal digits → 2 ^ 32 ≤ 10 * n + (get_or digits i 0 - 48) → ◌≡◌ {A = Option ℕ} None (if nat_lt (decimal digits) (2 ^ 32) then Some (decimal digits) else None)
too_large digits i n h e large =
    let step : decimal_behind n (drop i digits) ≡ decimal_behind (10 * n + (get_or digits i 0 - 48)) (drop (suc i) digits) = ap (λ v. decimal_behind n v) (drop-cons digits i 0 h) in
    let grows : 10 * n + (get_or digits i 0 - 48) ≤ decimal_behind (10 * n + (get_or digits i 0 - 48)) (drop (suc i) digits) = decimal_grows (10 * n + (get_or digits i 0 - 48)) (drop (suc i) digits) in
    let least : 2 ^ 32 ≤ decimal digits = subst (λ v. 2 ^ 32 ≤ v) (sym step ∙ e) (omega (arith, large, grows)) in
    rw (le-ltb (decimal digits) (2 ^ 32) least) refl
