-- The addresses of a prefix end within 32 bits.
use Rattle.std.proofs.Common.{◌≡◌, ℕ, zero, ◌+◌, ◌-◌, ◌*◌, ◌/◌, ◌^◌, ◌<◌, ◌≤◌, ap, sym, ◌∙◌, subst, arith}
use Rattle.std.proofs.Math.Nat.{div-lt_iff_lt-mul, mul-le-mul_left, mul_comm}
use Rattle.std.proofs.lemmas.Nat.{pow-add, pow_pos}
use Rattle.kd_config.specs.Address.{prefix_size, network_address}

-- the block that a number is in ends with the last of t blocks
block_within : (a s t : ℕ) → zero < s → a < t * s → a / s * s + s ≤ t * s
block_within a s t some below =
    let few : a / s < t = (div-lt_iff_lt-mul {k = s} {x = a} {y = t} some).1 below in
    omega (arith, mul-le-mul_left {m = a / s + 1} {n = t} s (omega arith), mul_comm s t, mul_comm s (a / s + 1))

-- the blocks of a prefix's size cover all addresses
blocks : (length : ℕ) → 2 ^ (32 - (32 - length)) * prefix_size length ≡ 2 ^ 32
blocks length =
    let whole : (32 - (32 - length)) + (32 - length) ≡ 32 = omega arith in
    sym (pow-add 2 (32 - (32 - length)) (32 - length)) ∙ ap (λ n. 2 ^ n) whole

pub cleared_within : (address length : ℕ) → address < 2 ^ 32 → network_address address length + prefix_size length ≤ 2 ^ 32
cleared_within address length below =
    subst (λ n. network_address address length + prefix_size length ≤ n) (blocks length)
    (block_within address (prefix_size length) (2 ^ (32 - (32 - length))) (pow_pos (32 - length)) (subst (λ n. address < n) (sym (blocks length)) below))
