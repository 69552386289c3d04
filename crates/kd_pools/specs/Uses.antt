-- How full the pools of a configuration are at a given time; subnets and pools are in the order in
-- which they are written, and shared networks in that of their numbers.
use Rattle.std.specs.Prelude.{ℕ, ◌+◌, ◌==◌, max, Bool, List, [], ◌∷◌, map, Option, None, Some, if◌then◌else◌}
use Rattle.std.specs.List.{find, range_with_len, sum_by}
use Rattle.kd_config.specs.Configuration.{Configuration}
use Rattle.kd_config.specs.declared.pool.Pool.{Pool}
use Rattle.kd_config.specs.declared.prefix.Prefix.{Prefix}
use Rattle.kd_config.specs.declared.subnet.Subnet.{Subnet}
use Rattle.kd_lease.specs.Choice.{reserved_anywhere}
use Rattle.kd_rows.specs.declared.row.Row.{Row}
use Rattle.kd_pools.specs.Counts.{addresses_of_range, counts_of}
use Rattle.kd_pools.specs.declared.counts.Counts.{Counts}
use Rattle.kd_pools.specs.declared.uses.NetworkUse.{NetworkUse}
use Rattle.kd_pools.specs.declared.uses.PoolUse.{PoolUse}

-- the use of a subnet: its prefix, the number of its shared network or 0, the use of each of its
-- pools, and the sums of their counts
pub record UseOfSubnet : Type 0 where
  pub prefix : Prefix
  pub network : ℕ
  pub pools : List PoolUse
  pub counts : Counts

-- the use of a pool at a given time, with these addresses reserved
abbrev pub pool_use : (ℕ → Bool) → List Row → ℕ → Pool → PoolUse
pool_use reserved rows now pool =
    record { range = pool.range; counts = counts_of reserved rows now (addresses_of_range pool.range) }

-- the sum of one number of each pool
abbrev pub sum_over : (Counts → ℕ) → List PoolUse → ℕ
sum_over number pools = sum_by (λ pool. number pool.counts) pools

-- the sums of the counts of pools
abbrev pub sums_of : List PoolUse → Counts
sums_of pools =
    record {
      addresses = sum_over (λ counts. counts.addresses) pools;
      reserved = sum_over (λ counts. counts.reserved) pools;
      bound = sum_over (λ counts. counts.bound) pools;
      offered = sum_over (λ counts. counts.offered) pools;
      declined = sum_over (λ counts. counts.declined) pools;
      ended = sum_over (λ counts. counts.ended) pools;
      unused = sum_over (λ counts. counts.unused) pools;
      free = sum_over (λ counts. counts.free) pools;
    }

-- the use of a subnet at a given time, with these addresses reserved
abbrev pub subnet_use : (ℕ → Bool) → List Row → ℕ → Subnet → UseOfSubnet
subnet_use reserved rows now subnet =
    let pools = map (pool_use reserved rows now) subnet.pools in
    record { prefix = subnet.prefix; network = subnet.network; pools = pools; counts = sums_of pools }

-- the use of each subnet of a configuration at a given time
abbrev pub subnet_uses : Configuration → List Row → ℕ → List UseOfSubnet
subnet_uses config rows now = map (subnet_use (reserved_anywhere config) rows now) config.subnets

-- a number of a subnet if it is in the network with this number, else 0
abbrev pub count_within : (Counts → ℕ) → ℕ → UseOfSubnet → ℕ
count_within number network u = if u.network == network then number u.counts else 0

-- the sum of one number of the subnets of a network
abbrev pub sum_within : (Counts → ℕ) → ℕ → List UseOfSubnet → ℕ
sum_within number network uses = sum_by (count_within number network) uses

-- the sums of the counts of the subnets of a network
abbrev pub sums_within : ℕ → List UseOfSubnet → Counts
sums_within network uses =
    record {
      addresses = sum_within (λ counts. counts.addresses) network uses;
      reserved = sum_within (λ counts. counts.reserved) network uses;
      bound = sum_within (λ counts. counts.bound) network uses;
      offered = sum_within (λ counts. counts.offered) network uses;
      declined = sum_within (λ counts. counts.declined) network uses;
      ended = sum_within (λ counts. counts.ended) network uses;
      unused = sum_within (λ counts. counts.unused) network uses;
      free = sum_within (λ counts. counts.free) network uses;
    }

-- the prefix of a subnet, if there is one
abbrev pub prefix_in_use : Option UseOfSubnet → Prefix
prefix_in_use None = record { address = 0; length = 32 }
prefix_in_use (Some u) = u.prefix

-- the use of the network with a number: the prefix of its first subnet, and the sums of the counts of
-- its subnets
abbrev pub network_use : List UseOfSubnet → ℕ → NetworkUse
network_use uses network =
    record {
      prefix = prefix_in_use (find (λ u. u.network == network) uses);
      counts = sums_within network uses;
    }

-- the greatest number of a network, or 0
abbrev pub greatest_network : List UseOfSubnet → ℕ
greatest_network [] = 0
greatest_network (u ∷ uses) = max u.network (greatest_network uses)

-- the uses of networks, by their numbers from 1
abbrev pub network_uses : List UseOfSubnet → List NetworkUse
network_uses uses =
    map (λ i. network_use uses (i + 1)) (range_with_len 0 (greatest_network uses))

-- the use of each subnet of a configuration, and of each shared network
pub record AllUses : Type 0 where
  pub subnets : List UseOfSubnet
  pub networks : List NetworkUse

-- the use of each subnet and of each shared network of a configuration at a given time
abbrev pub all_uses : Configuration → List Row → ℕ → AllUses
all_uses config rows now =
    record {
      subnets = subnet_uses config rows now;
      networks = network_uses (subnet_uses config rows now);
    }
