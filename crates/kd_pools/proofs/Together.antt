-- The uses of pools and of subnets, one after another.
use Rattle.std.proofs.Common.{◌≡◌, ℕ, ◌+◌, ◌*◌, ◌<◌, ◌≤◌, Bool, List, [], ◌∷◌, ◌++◌, map, take, length, get_or, ap, sym, ◌∙◌, arith}
use Rattle.std.proofs.lemmas.List.{map_more, take_all}
use Rattle.std.proofs.lemmas.List.Sums.{sum_by_push}
use Rattle.kd_config.specs.Configuration.{Configuration}
use Rattle.kd_config.specs.declared.subnet.Subnet.{Subnet}
use Rattle.kd_lease.specs.Choice.{reserved_anywhere}
use Rattle.kd_rows.specs.declared.row.Row.{Row}
use Rattle.kd_pools.specs.Uses.{UseOfSubnet, pool_use, subnet_use, subnet_uses, sums_of}
use Rattle.kd_pools.specs.Walking.{IsAtMost, both_counts, is_listed}
use Rattle.kd_pools.specs.declared.counts.Counts.{Counts}
use Rattle.kd_pools.specs.declared.uses.PoolUse.{PoolUse}
use Rattle.kd_pools.proofs.Counting.{same_counts}

module _ {X Y : Type 0} (make : X → Y) where
  -- what is made of the entries of a list, and of one more
  pub next_made : (list : List X) (i : ℕ) (x : X) (old new : List Y) (made : Y) → i < length list → x ≡ get_or list i x
      → old ≡ map make (take i list) → made ≡ make x → new ≡ old ++ made ∷ [] → new ≡ map make (take (i + 1) list)
  next_made list i x old new made less at before is put =
      put ∙ ap (λ (l : List Y). l ++ made ∷ []) before ∙ ap (λ (y : Y). map make (take i list) ++ y ∷ []) (is ∙ ap make at) ∙ sym (map_more make list i x less)

push_sums : (old : List PoolUse) (used : PoolUse) → sums_of (old ++ used ∷ []) ≡ both_counts (sums_of old) used.counts
push_sums old used =
    same_counts (sums_of (old ++ used ∷ [])) (both_counts (sums_of old) used.counts)
    (sum_by_push (λ u. u.counts.addresses) old used) (sum_by_push (λ u. u.counts.reserved) old used) (sum_by_push (λ u. u.counts.bound) old used)
    (sum_by_push (λ u. u.counts.offered) old used) (sum_by_push (λ u. u.counts.declined) old used) (sum_by_push (λ u. u.counts.ended) old used)
    (sum_by_push (λ u. u.counts.unused) old used) (sum_by_push (λ u. u.counts.free) old used)

-- the sums with it
pub next_sums : (old new : List PoolUse) (used : PoolUse) (counts both : Counts) → counts ≡ sums_of old → new ≡ old ++ used ∷ [] → both ≡ both_counts counts used.counts
    → both ≡ sums_of new
next_sums old new used counts both before put together =
    together ∙ ap (λ (c : Counts). both_counts c used.counts) before ∙ sym (ap sums_of put ∙ push_sums old used)

-- and the bounds of the sums
pub next_most : (i : ℕ) (counts here both : Counts) → IsAtMost (65536 * i) counts → IsAtMost 65536 here → both ≡ both_counts counts here → IsAtMost (65536 * (i + 1)) both
next_most i counts here both many few together = rw together (record {
  addresses = omega (arith, many.addresses, few.addresses);
  reserved = omega (arith, many.reserved, few.reserved);
  bound = omega (arith, many.bound, few.bound);
  offered = omega (arith, many.offered, few.offered);
  declined = omega (arith, many.declined, few.declined);
  ended = omega (arith, many.ended, few.ended);
  unused = omega (arith, many.unused, few.unused);
  free = omega (arith, many.free, few.free);
})

-- all pools of a subnet make its use
pub whole_subnet : (reserved : ℕ → Bool) (rows : List Row) (now : ℕ) (subnet : Subnet) (pools : List PoolUse) (counts : Counts) (used : UseOfSubnet) (i : ℕ)
    → used ≡ record { prefix = subnet.prefix; network = subnet.network; pools = pools; counts = counts }
    → pools ≡ map (pool_use reserved rows now) (take i subnet.pools) → counts ≡ sums_of pools → length subnet.pools ≤ i
    → used ≡ subnet_use reserved rows now subnet
whole_subnet reserved rows now subnet pools counts used i is each sums past =
    let all : pools ≡ map (pool_use reserved rows now) subnet.pools = each ∙ ap (map (pool_use reserved rows now)) (take_all i subnet.pools past) in
    let together : counts ≡ sums_of (map (pool_use reserved rows now) subnet.pools) = sums ∙ ap sums_of all in
    let same : record { prefix = subnet.prefix; network = subnet.network; pools = pools; counts = counts } ≡ subnet_use reserved rows now subnet =
    λ j. record { prefix = subnet.prefix; network = subnet.network; pools = all j; counts = together j } in
    is ∙ same

-- the uses of all subnets, given a list of the reserved addresses
pub whole_list : (list : List ℕ) (config : Configuration) (rows : List Row) (now : ℕ) (uses : List UseOfSubnet) (i : ℕ)
    → ((a : ℕ) → is_listed list a ≡ reserved_anywhere config a) → uses ≡ map (subnet_use (is_listed list) rows now) (take i config.subnets) → length config.subnets ≤ i
    → uses ≡ subnet_uses config rows now
whole_list list config rows now uses i h each past =
    let same : is_listed list ≡ reserved_anywhere config = λ j a. h a j in
    each ∙ ap (map (subnet_use (is_listed list) rows now)) (take_all i config.subnets past)
    ∙ ap (λ (reserved : ℕ → Bool). map (subnet_use reserved rows now) config.subnets) same
