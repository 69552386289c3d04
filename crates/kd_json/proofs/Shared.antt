-- Subnets whose pools are apart up to a number, one after another.
use Rattle.std.proofs.Common.{◌≡◌, ℕ, suc, ◌+◌, ◌-◌, ◌<◌, Bool, true, false, ◌&&◌, nat_le, List, [], ◌∷◌, ◌++◌, length, Some, None, ap, refl, ◌∙◌, arith}
use Rattle.std.proofs.lemmas.Bool.Decides.{nat_tests}
use Rattle.std.proofs.lemmas.List.{length-append}
use Rattle.kd_config.specs.Apart.{lie_apart}
use Rattle.kd_json.specs.Parts.{obey_within, obeys_within}
use Rattle.kd_config.specs.Rules.{all_obey, pool_ranges, obeys, ranges_in, reserved}
use Rattle.kd_fields.specs.Steps.{must}
use Rattle.kd_config.specs.declared.pool.Pool.{Pool}
use Rattle.kd_config.specs.declared.range.Range.{Range}
use Rattle.kd_config.specs.declared.subnet.Subnet.{Subnet}

pub some_ranges : (ranges : List Range) → lie_apart ranges ≡ false → 0 < length ranges
some_ranges [] e = absurd (cc)
some_ranges (r ∷ ranges) e = omega arith

as_many : (pools : List Pool) → length (ranges_in pools) ≡ length pools
as_many [] = refl
as_many (pool ∷ pools) = ap suc (as_many pools)

-- a test that was passed, and one that was not
pub must_passed : (b : Bool) → must b ≡ Some tt → b ≡ true
must_passed true e = refl
must_passed false e = absurd (cc)

pub must_failed : (b : Bool) → must b ≡ None → b ≡ false
must_failed true e = absurd (cc)
must_failed false e = refl

fits : (n m apart : ℕ) → nat_le (n + m) apart ≡ (nat_le n apart && nat_le m (apart - n))
fits n m apart = grind (arith, nat_tests)

exchanged : (a b c d : Bool) → ((a && b) && (c && d)) ≡ ((a && c) && (b && d))
exchanged false b c d = refl
exchanged true true c d = refl
exchanged true false true d = refl
exchanged true false false d = refl

-- the first of subnets, and those after it
pub one_more : (apart : ℕ) (earlier : List ℕ) (s : Subnet) (subnets : List Subnet)
    → obey_within apart earlier (s ∷ subnets)
    ≡ (obeys_within apart earlier s
    && obey_within (apart - length s.pools) (earlier ++ reserved s.reservations) subnets)
one_more apart earlier s subnets =
    let later = pool_ranges subnets in
    let long : length (ranges_in s.pools ++ later) ≡ length s.pools + length later
    = length-append (ranges_in s.pools) later
    ∙ ap (λ (n : ℕ). n + length later) (as_many s.pools) in
    ap (λ (n : ℕ). nat_le n apart && all_obey earlier (s ∷ subnets)) long
    ∙ (ap (λ (b : Bool). b && all_obey earlier (s ∷ subnets))
    (fits (length s.pools) (length later) apart)
    ∙ exchanged (nat_le (length s.pools) apart) (nat_le (length later) (apart - length s.pools))
    (obeys earlier s) (all_obey (earlier ++ reserved s.reservations) subnets))
