-- Helpers of private contracts only: addresses in a list, the counts of one address, and sums of
-- counts.
use Rattle.std.specs.Prelude.{ℕ, ◌+◌, ◌<◌, ◌≤◌, Bool, not, ◌&&◌, ◌||◌, ◌==◌, is_none, List, length, Option, slice_index, if◌then◌else◌}
use Rattle.std.specs.Int.{from_bool}
use Rattle.std.specs.List.{AllByRecursion, flat_map, list_any}
use Rattle.kd_config.specs.Rules.{reserved}
use Rattle.kd_config.specs.declared.subnet.Subnet.{Subnet}
use Rattle.kd_lease.specs.Choice.{has_such, live_row}
use Rattle.kd_lease.specs.Kept.{bound_state}
use Rattle.kd_lease.specs.Rules.{offered_state}
use Rattle.kd_rows.specs.declared.row.Row.{Row}
use Rattle.kd_pools.specs.Counts.{declined_state, live_in}
use Rattle.kd_pools.specs.Uses.{UseOfSubnet}
use Rattle.kd_pools.specs.declared.counts.Counts.{Counts}

-- an address is in a list
abbrev pub is_listed : List ℕ → ℕ → Bool
is_listed list a = list_any (λ b. b == a) list

-- the addresses that a subnet reserves
abbrev pub subnet_reserved : Subnet → List ℕ
subnet_reserved subnet = reserved subnet.reservations

-- the addresses that subnets reserve, in the order of the configuration
abbrev pub subnets_reserved : List Subnet → List ℕ
subnets_reserved subnets = flat_map subnet_reserved subnets

-- the addresses before a place are below this one
pub record PassesBelow (list : List ℕ) (place a : ℕ) : Type 0 where
  pub in_range : place ≤ length list
  pub below : (i : ℕ) → i < place → slice_index list i < a

-- the addresses before a place are below this one, and those from it on are not
pub record IsPlaceFor (list : List ℕ) (place a : ℕ) : Type 0 where
  pub in_range : place ≤ length list
  pub below : (i : ℕ) → i < place → slice_index list i < a
  pub above : (i : ℕ) → place ≤ i → i < length list → a ≤ slice_index list i

-- the counts of no addresses
abbrev pub no_counts : Counts
no_counts =
    record {
      addresses = 0;
      reserved = 0;
      bound = 0;
      offered = 0;
      declined = 0;
      ended = 0;
      unused = 0;
      free = 0;
    }

-- the counts of one address at a given time: it is reserved or not, and has this row or none
abbrev pub counts_at : Bool → Option Row → ℕ → Counts
counts_at reserved row now =
    record {
      addresses = 1;
      reserved = from_bool reserved;
      bound = from_bool (has_such (live_in bound_state now) row);
      offered = from_bool (has_such (live_in offered_state now) row);
      declined = from_bool (has_such (live_in declined_state now) row);
      ended = from_bool (has_such (λ r. not (live_row now r)) row);
      unused = from_bool (is_none row);
      free =
          from_bool
          (not reserved && (is_none row || has_such (λ r. not (live_row now r)) row));
    }

-- the sum of two counts
abbrev pub both_counts : Counts → Counts → Counts
both_counts a b =
    record {
      addresses = a.addresses + b.addresses;
      reserved = a.reserved + b.reserved;
      bound = a.bound + b.bound;
      offered = a.offered + b.offered;
      declined = a.declined + b.declined;
      ended = a.ended + b.ended;
      unused = a.unused + b.unused;
      free = a.free + b.free;
    }

-- the counts of subnets of a network, and of one more if it is in the network
abbrev pub both_within : ℕ → Counts → UseOfSubnet → Counts
both_within network counts u =
    if u.network == network then both_counts counts u.counts else counts

-- each number is at most this
pub record IsAtMost (most : ℕ) (counts : Counts) : Type 0 where
  pub addresses : counts.addresses ≤ most
  pub reserved : counts.reserved ≤ most
  pub bound : counts.bound ≤ most
  pub offered : counts.offered ≤ most
  pub declined : counts.declined ≤ most
  pub ended : counts.ended ≤ most
  pub unused : counts.unused ≤ most
  pub free : counts.free ≤ most

-- the counts of a subnet are those of at most 64 pools of 65,536 addresses
abbrev pub IsOneSubnet : UseOfSubnet → Type 0
IsOneSubnet u = IsAtMost 4194304 u.counts

-- uses of at most 256 subnets
pub record AreSubnetUses (uses : List UseOfSubnet) : Type 0 where
  pub few : length uses ≤ 256
  pub each : AllByRecursion IsOneSubnet uses
