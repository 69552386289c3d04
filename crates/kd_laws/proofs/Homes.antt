-- The subnet in which a message is served, be it a subnet of the configuration or a shared network
-- as one: its addresses have 32 bits, and its options are such as may be configured.
use Rattle.std.proofs.Common.{◌≡◌, ℕ, ◌+◌, ◌^◌, ◌<◌, Bool, true, false, ◌&&◌, ◌==◌, nat_eq, nat_le, nat_lt, not, List, [], ◌∷◌, ◌++◌, Option, Some, if◌then◌else◌, map, subst, arith}
use Rattle.std.specs.Prelude.{IfSome}
use Rattle.std.specs.List.{AllByRecursion, list_all, list_any}
use Rattle.std.proofs.lemmas.Bool.{and_parts, ltb-true}
use Rattle.kd_config.specs.Address.{has_address, prefix_size}
use Rattle.kd_config.specs.Apart.{lie_apart}
use Rattle.kd_config.specs.Networks.{network_of, part_holding, pool_for, pools_within, reservation_for, reservations_within}
use Rattle.kd_config.specs.Rules.{all_obey, is_new, lies_within, may_all_reserve, may_have, may_reserve, may_stand, obeys, pool_ranges, reserved}
use Rattle.kd_config.specs.Sound.{AreOptions, IsBoot, IsPool, IsPrefix, IsReservation, IsSound, IsSubnet}
use Rattle.kd_config.specs.declared.pool.Pool.{Pool}
use Rattle.kd_config.specs.declared.prefix.Prefix.{Prefix}
use Rattle.kd_config.specs.Reservation.{listed}
use Rattle.kd_config.specs.declared.reservation.Identity.{Identity}
use Rattle.kd_config.specs.declared.reservation.Reservation.{Reservation}
use Rattle.kd_config.specs.declared.subnet.Subnet.{Subnet}
use Rattle.kd_lease.specs.Choice.{Asking}
use Rattle.kd_lease.specs.Rules.{serving_subnet}
use Rattle.kd_lease.proofs.Served.{at_part, at_serving, flat-each, map-each}

-- a pool: its options may be configured, and its addresses have 32 bits
pub record ServesPool (pool : Pool) : Type 0 where
  pub options : AreOptions pool.options
  pub last : pool.range.last < 2 ^ 32

-- a reservation: likewise
pub record ServesClient (reservation : Reservation) : Type 0 where
  pub options : AreOptions reservation.options
  pub boots : AllByRecursion IsBoot reservation.boots
  pub address : (a : ℕ) → reservation.address ≡ Some a → a < 2 ^ 32

-- a subnet in which messages are served
pub record Serves (s : Subnet) : Type 0 where
  pub pools : AllByRecursion ServesPool s.pools
  pub reservations : AllByRecursion ServesClient s.reservations
  pub options : AreOptions s.options
  pub shared : AreOptions s.shared
  pub boot : IsBoot s.boot

-- ---- subnets of a sound configuration

-- an address of a prefix has 32 bits
within_32 : (prefix : Prefix) (a : ℕ) → IsPrefix prefix → has_address prefix a ≡ true → a < 2 ^ 32
within_32 prefix a is inside =
    let parts = and_parts (nat_le prefix.address a) (nat_lt a (prefix.address + prefix_size prefix.length)) inside in
    let below = ltb-true a (prefix.address + prefix_size prefix.length) parts.1 in
    omega (arith, below, is.within)

pools_serve : (prefix : Prefix) (pools : List Pool) → IsPrefix prefix → list_all (lies_within prefix) pools ≡ true → AllByRecursion IsPool pools → AllByRecursion ServesPool pools
pools_serve prefix [] is within each = tt
pools_serve prefix (pool ∷ pools) is within each =
    let parts = and_parts (lies_within prefix pool) (list_all (lies_within prefix) pools) within in
    let ends = and_parts (has_address prefix pool.range.first) (has_address prefix pool.range.last) parts.0 in
    (record { options = each.0.options; last = within_32 prefix pool.range.last is ends.1 }, pools_serve prefix pools is parts.1 each.1)

clients_serve : (prefix : Prefix) (earlier : List ℕ) (clients : List Identity) (rs : List Reservation)
    → IsPrefix prefix → may_all_reserve prefix earlier clients rs ≡ true → AllByRecursion IsReservation rs → AllByRecursion ServesClient rs
clients_serve prefix earlier clients [] is may each = tt
clients_serve prefix earlier clients (r ∷ rs) is may each =
    let more = may_all_reserve prefix (earlier ++ listed r.address) (clients ++ r.identity ∷ []) rs in
    let parts = and_parts (may_reserve prefix earlier r) (is_new clients r.identity && more) may in (
      record {
        options = each.0.options;
        boots = each.0.boots;
        address = λ a e. within_32 prefix a is
            (and_parts (has_address prefix a) (not (list_any (nat_eq a) earlier)) (subst (λ (o : Option ℕ). may_have prefix earlier o ≡ true) e parts.0)).0;
      },
      clients_serve prefix (earlier ++ listed r.address) (clients ++ r.identity ∷ []) rs is (and_parts (is_new clients r.identity) more parts.1).1 each.1,
    )

-- a subnet that obeys the rules serves
obeying : (earlier : List ℕ) (s : Subnet) → IsSubnet s → obeys earlier s ≡ true → Serves s
unfolding obeys
obeying earlier s sound obey =
    let rules = and_parts (list_all (lies_within s.prefix) s.pools) (may_all_reserve s.prefix earlier [] s.reservations) obey in
    record {
      pools = pools_serve s.prefix s.pools sound.prefix rules.0 sound.pools;
      reservations = clients_serve s.prefix earlier [] s.reservations sound.prefix rules.1 sound.reservations;
      options = sound.options;
      shared = sound.shared;
      boot = sound.boot;
    }

each_serves : (earlier : List ℕ) (subnets : List Subnet) → all_obey earlier subnets ≡ true → AllByRecursion IsSubnet subnets → AllByRecursion Serves subnets
each_serves earlier [] all each = tt
each_serves earlier (s ∷ subnets) all each =
    let parts = and_parts (obeys earlier s) (all_obey (earlier ++ reserved s.reservations) subnets) all in
    (obeying earlier s each.0 parts.0, each_serves (earlier ++ reserved s.reservations) subnets parts.1 each.1)

pub all_serve : (subnets : List Subnet) → may_stand subnets ≡ true → AllByRecursion IsSubnet subnets → AllByRecursion Serves subnets
unfolding may_stand
all_serve subnets together each =
    each_serves [] subnets (and_parts (lie_apart (pool_ranges subnets)) (all_obey [] subnets) together).1 each

-- ---- networks

no_options : AreOptions []
no_options = record { few = omega arith; each = tt; own = tt }

pools_of_part : (n : ℕ) (s : Subnet) → Serves s → AllByRecursion ServesPool (pools_within n s)
pools_of_part n s is = by (s.network == n) where
  by : (b : Bool) → AllByRecursion ServesPool (if b then map (pool_for s.classes) s.pools else [])
  by true = map-each ServesPool ServesPool (pool_for s.classes) (λ pool it. record { options = it.options; last = it.last }) s.pools is.pools
  by false = tt

clients_of_part : (n : ℕ) (s : Subnet) → Serves s → AllByRecursion ServesClient (reservations_within n s)
clients_of_part n s is = by (s.network == n) where
  by : (b : Bool) → AllByRecursion ServesClient (if b then map (reservation_for s.classes) s.reservations else [])
  by true = map-each ServesClient ServesClient (reservation_for s.classes) (λ reservation it. record { options = it.options; boots = it.boots; address = it.address }) s.reservations is.reservations
  by false = tt

-- a network of such subnets serves
network_serves : (subnets : List Subnet) → AllByRecursion Serves subnets → (n : ℕ) → Serves (network_of subnets n)
unfolding network_of
network_serves subnets each n = record {
  pools = flat-each Serves ServesPool (pools_within n) (pools_of_part n) subnets each;
  reservations = flat-each Serves ServesClient (reservations_within n) (clients_of_part n) subnets each;
  options = no_options;
  shared = no_options;
  boot = record { next_server = tt; server_name = tt; file_name = tt };
}

-- so the part of a subnet that has an address serves
pub part_serves : (subnets : List Subnet) → AllByRecursion Serves subnets → (s : Subnet) (a : ℕ) → Serves s → Serves (part_holding subnets s a)
part_serves subnets each s a is = at_part Serves network_serves subnets each s a is

-- and the subnet in which a message is served
pub serving_serves : (q : Asking) → IsSound q.config → IfSome (serving_subnet q) Serves
serving_serves q sound = at_serving Serves network_serves q (all_serve q.config.subnets sound.subnets.together sound.subnets.each)
