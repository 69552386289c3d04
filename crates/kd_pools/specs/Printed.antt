-- The printed texts about the use of pools: lines of words and numbers, and metrics in the text
-- exposition format of Prometheus, version 0.0.4.
use Rattle.std.specs.Prelude.{ℕ, List, ◌++◌, codes, decimal}
use Rattle.std.specs.List.{flat_map}
use Rattle.kd_config.specs.declared.prefix.Prefix.{Prefix}
use Rattle.kd_config.specs.declared.range.Range.{Range}
use Rattle.kd_text.specs.Text.{address_text, prefix_text}
use Rattle.kd_pools.specs.Uses.{AllUses, UseOfSubnet}
use Rattle.kd_pools.specs.declared.counts.Counts.{Counts}
use Rattle.kd_pools.specs.declared.metrics.Metric.{Metric}
use Rattle.kd_pools.specs.declared.metrics.Metric.TheVariants as metrics
use Rattle.kd_pools.specs.declared.uses.NetworkUse.{NetworkUse}
use Rattle.kd_pools.specs.declared.uses.PoolUse.{PoolUse}

-- a range: its first address, a dash, its last
unfoldable pub range_text : Range → List ℕ
range_text range = address_text range.first ++ codes "-" ++ address_text range.last

-- counts: each number follows a space, its name and a space
unfoldable pub counts_text : Counts → List ℕ
counts_text counts =
    codes " addresses " ++ decimal counts.addresses ++ codes " reserved " ++ decimal counts.reserved
    ++ codes " bound " ++ decimal counts.bound ++ codes " offered " ++ decimal counts.offered
    ++ codes " declined " ++ decimal counts.declined ++ codes " ended " ++ decimal counts.ended
    ++ codes " unused " ++ decimal counts.unused ++ codes " free " ++ decimal counts.free

-- the line of a pool of a subnet, with its line feed
unfoldable pub pool_line : Prefix → PoolUse → List ℕ
pool_line prefix pool =
    codes "pool " ++ range_text pool.range ++ codes " subnet "
    ++ prefix_text prefix.address prefix.length ++ counts_text pool.counts ++ codes "\n"

-- the line of a subnet, with its line feed
unfoldable pub subnet_line : UseOfSubnet → List ℕ
subnet_line subnet =
    codes "subnet " ++ prefix_text subnet.prefix.address subnet.prefix.length
    ++ counts_text subnet.counts ++ codes "\n"

-- the lines of a subnet: one for each of its pools, then its own
unfoldable pub subnet_lines : UseOfSubnet → List ℕ
subnet_lines subnet = flat_map (pool_line subnet.prefix) subnet.pools ++ subnet_line subnet

-- the line of a shared network, with its line feed
unfoldable pub network_line : NetworkUse → List ℕ
network_line network =
    codes "network " ++ prefix_text network.prefix.address network.prefix.length
    ++ counts_text network.counts ++ codes "\n"

-- the lines of subnets, one after another, and then those of shared networks
abbrev pub lines_text : AllUses → List ℕ
lines_text uses = flat_map subnet_lines uses.subnets ++ flat_map network_line uses.networks

-- the name of a metric
abbrev pub metric_name : Metric → List ℕ
metric_name metrics.Size = codes "kdhcp_pool_size"
metric_name metrics.Addresses = codes "kdhcp_pool_addresses"
metric_name metrics.Reserved = codes "kdhcp_pool_reserved"
metric_name metrics.Free = codes "kdhcp_pool_free"

-- the help text of a metric
abbrev pub metric_help : Metric → List ℕ
metric_help metrics.Size = codes "Addresses of the pool."
metric_help metrics.Addresses = codes "Addresses of the pool by what their row says."
metric_help metrics.Reserved = codes "Addresses of the pool that are reserved for a client."
metric_help metrics.Free = codes "Addresses of the pool that a new client could get."

-- the lines before those of the pools: they say what a metric is, and that it is a gauge
unfoldable pub head_text : Metric → List ℕ
head_text metric =
    codes "# HELP " ++ metric_name metric ++ codes " " ++ metric_help metric ++ codes "\n# TYPE "
    ++ metric_name metric ++ codes " gauge\n"

-- the labels of a pool, without the brace after them
unfoldable pub labels_text : Prefix → Range → List ℕ
labels_text prefix range =
    codes "{subnet=\"" ++ prefix_text prefix.address prefix.length ++ codes "\",pool=\""
    ++ range_text range ++ codes "\""

-- the line of a metric with only the labels of the pool, with its line feed
unfoldable pub sample_line : Metric → Prefix → Range → ℕ → List ℕ
sample_line metric prefix range number =
    metric_name metric ++ labels_text prefix range ++ codes "} " ++ decimal number ++ codes "\n"

-- the line of a metric with the labels of the pool and a state, with its line feed
unfoldable pub state_line : Prefix → Range → List ℕ → ℕ → List ℕ
state_line prefix range state number =
    metric_name metrics.Addresses ++ labels_text prefix range ++ codes ",state=\"" ++ state
    ++ codes "\"} " ++ decimal number ++ codes "\n"

-- the lines of a pool, one for each state of its addresses
unfoldable pub states_text : Prefix → PoolUse → List ℕ
states_text prefix pool =
    state_line prefix pool.range (codes "bound") pool.counts.bound
    ++ state_line prefix pool.range (codes "offered") pool.counts.offered
    ++ state_line prefix pool.range (codes "declined") pool.counts.declined
    ++ state_line prefix pool.range (codes "ended") pool.counts.ended
    ++ state_line prefix pool.range (codes "unused") pool.counts.unused

-- the lines of a metric for a pool
abbrev pub samples_text : Metric → Prefix → PoolUse → List ℕ
samples_text metrics.Size prefix pool =
    sample_line metrics.Size prefix pool.range pool.counts.addresses
samples_text metrics.Addresses prefix pool = states_text prefix pool
samples_text metrics.Reserved prefix pool =
    sample_line metrics.Reserved prefix pool.range pool.counts.reserved
samples_text metrics.Free prefix pool =
    sample_line metrics.Free prefix pool.range pool.counts.free

-- the lines of a metric for a subnet's pools
abbrev pub subnet_samples : Metric → UseOfSubnet → List ℕ
subnet_samples metric subnet = flat_map (samples_text metric subnet.prefix) subnet.pools

-- a metric: its head, and its lines for each pool
unfoldable pub metric_text : Metric → List UseOfSubnet → List ℕ
metric_text metric subnets = head_text metric ++ flat_map (subnet_samples metric) subnets

-- the four metrics, one after another
unfoldable pub metrics_text : List UseOfSubnet → List ℕ
metrics_text subnets =
    metric_text metrics.Size subnets ++ metric_text metrics.Addresses subnets
    ++ metric_text metrics.Reserved subnets ++ metric_text metrics.Free subnets
