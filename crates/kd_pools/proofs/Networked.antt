-- The uses of the subnets of shared networks, one after another.
use Rattle.std.proofs.Common.{◌≡◌, ℕ, ◌+◌, ◌*◌, ◌<◌, ◌≤◌, ◌==◌, Bool, true, false, List, [], ◌∷◌, ◌++◌, map, take, length, get_or, if◌then◌else◌, refl, ap, sym, subst, ◌∙◌, arith}
use Rattle.std.specs.List.{AllByRecursion}
use Rattle.std.proofs.lemmas.List.{length-map, take_more}
use Rattle.std.proofs.lemmas.List.Sums.{sum_by_push}
use Rattle.kd_config.specs.Configuration.{Configuration}
use Rattle.kd_config.specs.Sound.{IsSound}
use Rattle.kd_lease.specs.Choice.{reserved_anywhere}
use Rattle.kd_rows.specs.declared.row.Row.{Row}
use Rattle.kd_pools.specs.Uses.{UseOfSubnet, count_within, subnet_use, subnet_uses, sums_within}
use Rattle.kd_pools.specs.Walking.{IsAtMost, IsOneSubnet, both_counts, both_within}
use Rattle.kd_pools.specs.declared.counts.Counts.{Counts}
use Rattle.kd_pools.proofs.Counting.{at_most, same_counts}

-- what holds of each element, and of one more
each_push : {X : Type 0} (P : X → Type 0) (xs : List X) (x : X) → AllByRecursion P xs → P x → AllByRecursion P (xs ++ x ∷ [])
each_push P [] x all one = (one, tt)
each_push P (y ∷ xs) x all one = (all.0, each_push P xs x all.1 one)

pub next_each : {X : Type 0} (P : X → Type 0) (old new : List X) (x : X) → AllByRecursion P old → P x → new ≡ old ++ x ∷ [] → AllByRecursion P new
next_each P old new x all one put = subst (AllByRecursion P) (sym put) (each_push P old x all one)

-- a sound configuration has at most 256 subnets
pub few_uses : (config : Configuration) (rows : List Row) (now : ℕ) (uses : List UseOfSubnet) → uses ≡ subnet_uses config rows now → IsSound config → length uses ≤ 256
few_uses config rows now uses is sound =
    let few = sound.subnets.few in
    let same : length uses ≡ length config.subnets = ap length is ∙ length-map config.subnets (subnet_use (reserved_anywhere config) rows now) in
    omega (arith, few, same)

-- the sums with one subnet more, which is in the network or not
joined : (b : Bool) (x s c : Counts)
    → x.addresses ≡ s.addresses + (if b then c.addresses else 0) → x.reserved ≡ s.reserved + (if b then c.reserved else 0)
    → x.bound ≡ s.bound + (if b then c.bound else 0) → x.offered ≡ s.offered + (if b then c.offered else 0)
    → x.declined ≡ s.declined + (if b then c.declined else 0) → x.ended ≡ s.ended + (if b then c.ended else 0)
    → x.unused ≡ s.unused + (if b then c.unused else 0) → x.free ≡ s.free + (if b then c.free else 0)
    → x ≡ (if b then both_counts s c else s)
joined true x s c a r bo o d e u f = same_counts x (both_counts s c) a r bo o d e u f
joined false x s c a r bo o d e u f =
    same_counts x s (omega (arith, a)) (omega (arith, r)) (omega (arith, bo)) (omega (arith, o)) (omega (arith, d)) (omega (arith, e)) (omega (arith, u)) (omega (arith, f))

push_within : (network : ℕ) (old : List UseOfSubnet) (u : UseOfSubnet) → sums_within network (old ++ u ∷ []) ≡ both_within network (sums_within network old) u
push_within network old u =
    joined (u.network == network) (sums_within network (old ++ u ∷ [])) (sums_within network old) u.counts
    (sum_by_push (count_within (λ c. c.addresses) network) old u) (sum_by_push (count_within (λ c. c.reserved) network) old u)
    (sum_by_push (count_within (λ c. c.bound) network) old u) (sum_by_push (count_within (λ c. c.offered) network) old u)
    (sum_by_push (count_within (λ c. c.declined) network) old u) (sum_by_push (count_within (λ c. c.ended) network) old u)
    (sum_by_push (count_within (λ c. c.unused) network) old u) (sum_by_push (count_within (λ c. c.free) network) old u)

pub next_within : (network : ℕ) (uses : List UseOfSubnet) (i : ℕ) (u : UseOfSubnet) (counts both : Counts) → i < length uses → u ≡ get_or uses i u
    → counts ≡ sums_within network (take i uses) → both ≡ both_within network counts u → both ≡ sums_within network (take (i + 1) uses)
next_within network uses i u counts both less at before with_ =
    with_ ∙ ap (λ (c : Counts). both_within network c u) before ∙ sym (push_within network (take i uses) u)
    ∙ ap (λ (x : UseOfSubnet). sums_within network (take i uses ++ x ∷ [])) at ∙ ap (sums_within network) (sym (take_more uses i u less))

-- and the bounds of the sums
pub most_within : (network i : ℕ) (u : UseOfSubnet) (counts both : Counts) → IsAtMost (4194304 * i) counts → IsOneSubnet u → both ≡ both_within network counts u
    → IsAtMost (4194304 * (i + 1)) both
most_within network i u counts both many one with_ = subst (IsAtMost (4194304 * (i + 1))) (sym with_) (by (u.network == network)) where
  by : (b : Bool) → IsAtMost (4194304 * (i + 1)) (if b then both_counts counts u.counts else counts)
  by true = record {
    addresses = omega (arith, many.addresses, one.addresses);
    reserved = omega (arith, many.reserved, one.reserved);
    bound = omega (arith, many.bound, one.bound);
    offered = omega (arith, many.offered, one.offered);
    declined = omega (arith, many.declined, one.declined);
    ended = omega (arith, many.ended, one.ended);
    unused = omega (arith, many.unused, one.unused);
    free = omega (arith, many.free, one.free);
  }
  by false = at_most (4194304 * i) (4194304 * (i + 1)) counts (omega arith) many
