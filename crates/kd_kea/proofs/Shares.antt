-- Shares that are exact in binary: half of a lifetime and seven eighths of it, to the nearest second
-- and from a half upwards.
use Rattle.std.proofs.Common.{◌≡◌, ℕ, suc, ◌+◌, ◌*◌, ◌/◌, ◌^◌, ◌<◌, ◌≤◌, true, false, refl, ap, ◌∙◌, arith, true≢false}
use Rattle.std.specs.Prelude.{pos, negsuc}
use Rattle.std.specs.Float.{Float, binary64, fin, inf, nan, float_round, float_to_unsigned, round_with}
use Rattle.std.specs.Float.Ieee.{down, in_float, mul, of_bits, of_int, round, up}
use Rattle.std.specs.Int.{w32}
use lib.Dec.{le→leb}
use lib.Ieee.Back.{round_whole, unsigned_back}
use lib.Ieee.Exact.{HasValue, round_exact}
use lib.Ieee.Fits.{down_pos}
use lib.Ieee.Nearest.{div_same}
use lib.Ieee.Scale.{round_same}
use lib.Pow.{pow_mono, pow_pos, shl_lt}
use native.Mathlib.Nat.{lt_of_lt_of_le, mul-pos}
use Rattle.kd_config.specs.Term.{share_of}
use Rattle.kd_kea.specs.declared.objects.times.TheConstants.{HALF, SEVEN_EIGHTHS}

-- the product of k / 2 ^ (j + 1) and a whole number n
product : (k j n : ℕ) (x : Float) → HasValue x false n 1 → mul binary64 (fin false k (negsuc j)) x ≡ round binary64 false (k * n) (2 ^ suc j)
unfolding mul
product k j n nan v = absurd v
product k j n (inf t) v = absurd v
product k j n (fin true m e) v = absurd (true≢false v.0)
product k j n (fin false m e) v =
    let size : m * up e ≡ n * down e = omega (arith, v.1) in
    let same : (z s d : ℕ) → k * 1 * (n * d) * s ≡ k * n * (s * d) = λ z s d. omega arith in
    round_same binary64 false (k * 1 * (m * up e)) (2 ^ suc j * down e) (k * n) (2 ^ suc j)
    (mul-pos (pow_pos (suc j)) (down_pos e)) (pow_pos (suc j))
    (ap (λ x. k * 1 * x * 2 ^ suc j) size ∙ same 0 (2 ^ suc j) (down e))

-- a number of this size, rounded to a whole one
rounded : (p s : ℕ) (y : Float) → 0 < s → HasValue y false p s → float_round binary64 y ≡ of_int binary64 (pos ((2 * p + s) / (2 * s)))
unfolding round_with of_int
rounded p s nan some v = absurd v
rounded p s (inf t) some v = absurd v
rounded p s (fin true m e) some v = absurd (true≢false v.0)
rounded p s (fin false m e) some v =
    let same : (a d : ℕ) → a * s ≡ p * d → (2 * a + d) * (2 * s) ≡ (2 * p + s) * (2 * d) = λ a d h. omega (arith, h) in
    ap (λ n. round binary64 false n 1)
    (div_same (2 * (m * up e) + down e) (2 * down e) (2 * p + s) (2 * s) (omega (arith, down_pos e)) (omega (arith, some)) (same (m * up e) (down e) v.1))

-- k / 2 ^ (j + 1) of a whole number, in whole numbers
exact_share : (k j i n r : ℕ) → k * n < 2 ^ 53 → 53 + i ≤ 2098 → (2 ^ 1074 ≡ 2 ^ i * 2 ^ suc j) → n ≤ 2 ^ 53 → (2 * (k * n) + 2 ^ suc j) / (2 * 2 ^ suc j) ≡ r → r < 2 ^ 32 → share_of (fin false k (negsuc j)) n ≡ r
unfolding of_int in_float
exact_share k j i n r few room power small is less =
    let x : HasValue (of_int binary64 (pos n)) false n 1 = round_whole binary64 false n small in
    let same : (z s : ℕ) → k * n * (z * s) ≡ k * n * z * s = λ z s. omega arith in
    let y : HasValue (round binary64 false (k * n) (2 ^ suc j)) false (k * n) (2 ^ suc j) =
    round_exact binary64 false (k * n) (2 ^ suc j) (k * n) i (pow_pos (suc j)) few (lt_of_lt_of_le (shl_lt 53 i few) (pow_mono room))
    (ap (λ w. k * n * w) power ∙ same (2 ^ i) (2 ^ suc j)) in
    ap (λ v. float_to_unsigned w32 (float_round binary64 v)) (product k j n (of_int binary64 (pos n)) x)
    ∙ ap (float_to_unsigned w32) (rounded (k * n) (2 ^ suc j) (round binary64 false (k * n) (2 ^ suc j)) (pow_pos (suc j)) y)
    ∙ ap (λ m. float_to_unsigned w32 (of_int binary64 (pos m))) is
    ∙ (unsigned_back binary64 32 r (le→leb r (2 ^ 53) (omega (arith, less))) less).1

half_is : HALF ≡ fin false 1 (negsuc 0)
unfolding of_bits
half_is = refl

eighths_are : SEVEN_EIGHTHS ≡ fin false 7 (negsuc 2)
unfolding of_bits
eighths_are = refl
