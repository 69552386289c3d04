-- Shared networks: subnets on one link, whose clients may have an address of each of them (ISC Kea
-- Administrator Reference Manual, section Shared Networks in DHCPv4).
use Rattle.std.specs.Prelude.{ℕ, ◌+◌, ◌-◌, Bool, ◌&&◌, ◌==◌, if◌then◌else◌, List, [], ◌∷◌, ◌++◌, map, max, Option, Some, None, slice_get}
use Rattle.std.specs.List.{find, flat_map, list_any, range_with_len}
use Rattle.kd_classes.specs.Boot.{no_boot}
use Rattle.kd_config.specs.Address.{has_address}
use Rattle.kd_config.specs.declared.pool.Pool.{Pool}
use Rattle.kd_config.specs.declared.prefix.Prefix.{Prefix}
use Rattle.kd_config.specs.declared.reservation.Reservation.{Reservation}
use Rattle.kd_config.specs.declared.subnet.Subnet.{Subnet}

-- a subnet of the network with a number has an address in its prefix
abbrev pub is_part : ℕ → ℕ → Subnet → Bool
is_part number address s = s.network == number && has_address s.prefix address

-- a value, or another one if there is none
abbrev pub value_or : Option Subnet → Subnet → Subnet
value_or None other = other
value_or (Some s) other = s

-- an address is in the prefix of a subnet or of another one in its network
abbrev pub covers : List Subnet → Subnet → ℕ → Bool
covers subnets s address =
    if s.network == 0 then has_address s.prefix address
    else list_any (is_part s.network address) subnets

-- the subnet that has an address: of a network the first that has it in its prefix, or else this one
abbrev pub part_holding : List Subnet → Subnet → ℕ → Subnet
part_holding subnets s address =
    if s.network == 0 then s else value_or (find (is_part s.network address) subnets) s

-- a pool of a subnet with these classes is for its own classes and for these
abbrev pub pool_for : List (List ℕ) → Pool → Pool
pool_for classes pool =
    record { range = pool.range; classes = pool.classes ++ classes; options = pool.options }

-- the pools that a network has of a subnet
abbrev pub pools_within : ℕ → Subnet → List Pool
pools_within number s = if s.network == number then map (pool_for s.classes) s.pools else []

-- a reservation in a subnet with these classes is for its own classes and for these
abbrev pub reservation_for : List (List ℕ) → Reservation → Reservation
reservation_for classes reservation =
    record {
      identity = reservation.identity;
      address = reservation.address;
      options = reservation.options;
      boots = reservation.boots;
      classes = reservation.classes ++ classes;
      joins = reservation.joins;
    }

-- the reservations that a network has of a subnet
abbrev pub reservations_within : ℕ → Subnet → List Reservation
reservations_within number s =
    if s.network == number then map (reservation_for s.classes) s.reservations else []

-- the prefix of a subnet, if there is one
abbrev pub prefix_or_none : Option Subnet → Prefix
prefix_or_none None = record { address = 0; length = 32 }
prefix_or_none (Some s) = s.prefix

-- a network as one subnet: the pools and the reservations of its subnets, in order; its prefix is
-- that of the first
unfoldable pub network_of : List Subnet → ℕ → Subnet
network_of subnets number =
    record {
      prefix = prefix_or_none (find (λ s. s.network == number) subnets);
      relays = [];
      classes = [];
      pools = flat_map (pools_within number) subnets;
      reservations = flat_map (reservations_within number) subnets;
      options = [];
      network = number;
      shared = [];
      boot = no_boot;
      term = None;
    }

-- the greatest number of a network, or 0
abbrev pub network_count : List Subnet → ℕ
network_count [] = 0
network_count (s ∷ subnets) = max s.network (network_count subnets)

-- the networks, by their numbers from 1
abbrev pub networks_in : List Subnet → List Subnet
networks_in subnets =
    map (λ i. network_of subnets (i + 1)) (range_with_len 0 (network_count subnets))

-- the network with a number, from 1
abbrev pub network_at : List Subnet → ℕ → Option Subnet
network_at subnets number =
    if number == 0 then None else slice_get (networks_in subnets) (number - 1)

-- the subnet in which a client of this one is served: the network that it is in, or itself
abbrev pub home_of : List Subnet → Subnet → Subnet
home_of subnets s = value_or (network_at subnets s.network) s
