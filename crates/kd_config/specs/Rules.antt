-- Rules over a whole configuration: pools and reserved addresses are within their subnet's prefix,
-- no two pools share an address, no address is reserved twice, and no client has two reservations
-- in one subnet.
use Rattle.std.specs.Prelude.{ℕ, Bool, true, false, not, ◌&&◌, nat_eq, bytes_eq, List, [], ◌∷◌, ◌++◌, map, Option, Some, None}
use Rattle.std.specs.List.{flat_map, list_all, list_any}
use Rattle.kd_config.specs.Address.{has_address}
use Rattle.kd_config.specs.Apart.{lie_apart}
use Rattle.kd_config.specs.Reservation.{listed}
use Rattle.kd_config.specs.declared.pool.Pool.{Pool}
use Rattle.kd_config.specs.declared.prefix.Prefix.{Prefix}
use Rattle.kd_config.specs.declared.range.Range.{Range}
use Rattle.kd_config.specs.declared.reservation.Identity.{Identity}
use Rattle.kd_config.specs.declared.reservation.Identity.TheVariants as clients
use Rattle.kd_config.specs.declared.reservation.Reservation.{Reservation}
use Rattle.kd_config.specs.declared.subnet.Subnet.{Subnet}

-- a pool is within a prefix
abbrev pub lies_within : Prefix → Pool → Bool
lies_within prefix pool = has_address prefix pool.range.first && has_address prefix pool.range.last

-- the addresses of reservations
abbrev pub reserved : List Reservation → List ℕ
reserved reservations = flat_map (λ reservation. listed reservation.address) reservations

-- two reservations are for the same client
abbrev pub same_identity : Identity → Identity → Bool
same_identity (clients.Hardware a) (clients.Hardware b) = bytes_eq a b
same_identity (clients.Duid a) (clients.Duid b) = bytes_eq a b
same_identity (clients.Circuit a) (clients.Circuit b) = bytes_eq a b
same_identity (clients.ClientId a) (clients.ClientId b) = bytes_eq a b
same_identity _ _ = false

-- an address, if there is one, is of the prefix and not one of the earlier ones
abbrev pub may_have : Prefix → List ℕ → Option ℕ → Bool
may_have prefix earlier None = true
may_have prefix earlier (Some a) = has_address prefix a && not (list_any (nat_eq a) earlier)

-- a reservation has no address, or one of the prefix that is not one of the earlier ones
abbrev pub may_reserve : Prefix → List ℕ → Reservation → Bool
may_reserve prefix earlier reservation = may_have prefix earlier reservation.address

-- a client is not one of the earlier ones
abbrev pub is_new : List Identity → Identity → Bool
is_new earlier identity = not (list_any (same_identity identity) earlier)

-- the rules of a subnet's reservations, after the addresses and the clients reserved before them
abbrev pub may_all_reserve : Prefix → List ℕ → List Identity → List Reservation → Bool
may_all_reserve prefix earlier clients [] = true
may_all_reserve prefix earlier clients (r ∷ rs) =
    may_reserve prefix earlier r
    && (is_new clients r.identity
    && may_all_reserve prefix (earlier ++ listed r.address) (clients ++ r.identity ∷ []) rs)

-- the rules of one subnet, after the addresses reserved before it
unfoldable pub obeys : List ℕ → Subnet → Bool
obeys earlier subnet =
    list_all (lies_within subnet.prefix) subnet.pools
    && may_all_reserve subnet.prefix earlier [] subnet.reservations

-- the rules of subnets, in order
abbrev pub all_obey : List ℕ → List Subnet → Bool
all_obey earlier [] = true
all_obey earlier (subnet ∷ subnets) =
    obeys earlier subnet && all_obey (earlier ++ reserved subnet.reservations) subnets

-- the addresses of the pools of a subnet
abbrev pub ranges_in : List Pool → List Range
ranges_in pools = map (λ pool. pool.range) pools

-- the addresses of all pools, in order
abbrev pub pool_ranges : List Subnet → List Range
pool_ranges [] = []
pool_ranges (subnet ∷ subnets) = ranges_in subnet.pools ++ pool_ranges subnets

-- subnets that are accepted together: they obey the rules, and no two pools share an address
unfoldable pub may_stand : List Subnet → Bool
may_stand subnets = lie_apart (pool_ranges subnets) && all_obey [] subnets
