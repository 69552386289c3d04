-- The parts of pools obey what every pool of a configuration obeys.
use Rattle.std.proofs.Common.{◌≡◌, ℕ, zero, suc, ◌+◌, ◌-◌, ◌*◌, ◌<◌, ◌≤◌, Bool, true, false, nat_lt, List, [], ◌∷◌, ◌++◌, map, length, refl, subst, arith, Some}
use Rattle.std.proofs.Math.Nat.{mul-div-le}
use Rattle.std.specs.List.{AllByRecursion, flat_map, range_with_len}
use Rattle.std.specs.Prelude.{if◌then◌else◌}
use borrow.Author.Tests.{leb-true, ltb-true}
use Rattle.kd_config.specs.Sound.{AreOptions, IsPool, IsRange}
use Rattle.kd_config.specs.declared.pool.Pool.{Pool}
use Rattle.kd_json.proofs.Came.{passed_only}
use Rattle.kd_keys.specs.Parts.{first_part, first_parts, pool_part, part_count, parts_of, parts_of_all}

-- a pool of any number of addresses
pub record IsWide (pool : Pool) : Type 0 where
  pub some : pool.range.first ≤ pool.range.last
  pub options : AreOptions pool.options

-- the first part of some addresses is a range
first_sound_by : (first last : ℕ) → (b : Bool) → nat_lt (last - first) 65536 ≡ b → first ≤ last → IsRange (record { first = first; last = (if b then last else first + 65535) })
first_sound_by first last true test some = record { some = some; few = ltb-true (last - first) 65536 test }
first_sound_by first last false test some = record { some = omega arith; few = omega arith }

first_sound : (first last : ℕ) → first ≤ last → IsRange (first_part first last)
first_sound first last some = first_sound_by first last (nat_lt (last - first) 65536) refl some

-- a part of a pool is a pool of a configuration
part_sound : (pool : Pool) (i : ℕ) → IsWide pool → i < part_count pool.range → IsPool (pool_part pool i)
part_sound pool i wide below =
    let whole = mul-div-le (pool.range.last - pool.range.first) 65536 in
    let some = wide.some in
    let within : pool.range.first + 65536 * i ≤ pool.range.last = omega (arith, whole, below, some) in
    record { range = first_sound (pool.range.first + 65536 * i) pool.range.last within; options = wide.options }

-- so are parts from one on
parts_from : (pool : Pool) (a n : ℕ) → IsWide pool → a + n ≤ part_count pool.range → AllByRecursion IsPool (map (pool_part pool) (range_with_len a n))
parts_from pool a zero wide within = tt
parts_from pool a (suc n) wide within =
    (part_sound pool a wide (omega (arith, within)), parts_from pool (a + 1) n wide (omega (arith, within)))

each_part : (pool : Pool) → IsWide pool → AllByRecursion IsPool (parts_of pool)
unfolding first_parts
each_part pool wide = parts_from pool 0 (part_count pool.range) wide (omega arith)

-- what holds for two lists holds for both together
pub each_of_both : {A : Type 0} (P : A → Type 0) (xs ys : List A) → AllByRecursion P xs → AllByRecursion P ys → AllByRecursion P (xs ++ ys)
each_of_both P [] ys first second = second
each_of_both P (x ∷ xs) ys first second = (first.0, each_of_both P xs ys first.1 second)

each_among : (pools : List Pool) → AllByRecursion IsWide pools → AllByRecursion IsPool (flat_map parts_of pools)
each_among [] wide = tt
each_among (pool ∷ pools) wide =
    each_of_both IsPool (parts_of pool) (flat_map parts_of pools) (each_part pool wide.0) (each_among pools wide.1)

-- the parts of pools are pools of a configuration, and at most 64
pub parts_sound : (pools parts : List Pool) → parts_of_all pools ≡ Some parts → AllByRecursion IsWide pools → (length parts ≤ 64) × AllByRecursion IsPool parts
unfolding parts_of_all
parts_sound pools parts e wide =
    let few = passed_only _ (flat_map parts_of pools) parts e in (
      subst (λ (ps : List Pool). length ps ≤ 64) few.1 (leb-true (length (flat_map parts_of pools)) 64 few.0),
      subst (AllByRecursion IsPool) few.1 (each_among pools wide),
    )
