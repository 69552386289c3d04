-- The parts of a pool, one after another.
use Rattle.std.proofs.Common.{◌≡◌, ℕ, zero, suc, ◌+◌, [], ◌∷◌, ◌++◌, map, refl, ap, ◌∙◌, arith}
use Rattle.std.specs.List.{range_with_len}
use Rattle.kd_config.specs.declared.pool.Pool.{Pool}
use Rattle.kd_keys.specs.Parts.{first_parts, pool_part}

-- one number more
mapped_more : {A : Type 0} (f : ℕ → A) (a n : ℕ) → map f (range_with_len a (suc n)) ≡ map f (range_with_len a n) ++ (f (a + n) ∷ [])
mapped_more f a zero = let here : a ≡ a + zero = omega arith in ap (λ (m : ℕ). f m ∷ []) here
mapped_more f a (suc n) =
    let there : a + 1 + n ≡ a + suc n = omega arith in
    ap (λ xs. f a ∷ xs) (mapped_more f (a + 1) n)
    ∙ ap (λ (m : ℕ). (f a ∷ map f (range_with_len (a + 1) n)) ++ (f m ∷ [])) there

-- there is no part before the first
pub none_before : (pool : Pool) → first_parts pool 0 ≡ []
unfolding first_parts
none_before pool = refl

-- one part more
pub one_more : (pool : Pool) (count : ℕ) → first_parts pool (count + 1) ≡ first_parts pool count ++ (pool_part pool count ∷ [])
unfolding first_parts
one_more pool count =
    let next : count + 1 ≡ suc count = omega arith in
    let here : 0 + count ≡ count = omega arith in
    ap (λ (n : ℕ). map (pool_part pool) (range_with_len 0 n)) next
    ∙ mapped_more (pool_part pool) 0 count
    ∙ ap (λ (n : ℕ). map (pool_part pool) (range_with_len 0 count) ++ (pool_part pool n ∷ [])) here
