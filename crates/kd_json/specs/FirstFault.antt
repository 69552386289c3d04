-- Which fault a text has that describes no configuration (our own format): it describes no
-- settings; or a rule is broken, the first one subnet by subnet, in each subnet first by its pools
-- and then by its reservations; or a class of it is refused.
use Rattle.std.specs.Prelude.{◌≡◌, ◌⊎◌, ℕ, ◌+◌, Bool, true, false, if◌then◌else◌, ◌==◌, ◌-◌, List, [], ◌∷◌, ◌++◌, count_by, take, codes, slice_get, Option, Some, None}
use Rattle.std.specs.Fmt.{decimal}
use Rattle.std.specs.List.{flat_map}
use Rattle.kd_config.specs.Address.{has_address}
use Rattle.kd_fields.specs.Place.{path_below}
use Rattle.kd_json.specs.Document.{accepted, settings_spelled}
use Rattle.kd_json.specs.Faults.{config_fault_number, fault_path}
use Rattle.kd_config.specs.Rules.{lies_within, may_reserve, may_stand, reserved}
use Rattle.kd_json.specs.declared.fault.ConfigFault.{ConfigFault}
use Rattle.kd_json.specs.declared.fault.ConfigFault.TheVariants as faults
use Rattle.kd_json.specs.declared.objects.settings.Settings.{Settings}
use Rattle.kd_config.specs.declared.pool.Pool.{Pool}
use Rattle.kd_config.specs.declared.prefix.Prefix.{Prefix}
use Rattle.kd_config.specs.declared.reservation.Identity.{Identity}
use Rattle.kd_config.specs.declared.reservation.Identity.TheVariants as clients
use Rattle.kd_config.specs.declared.reservation.Reservation.{Reservation}
use Rattle.kd_config.specs.declared.subnet.Subnet.{Subnet}

-- the key that a client is given at
abbrev pub client_key : Identity → List ℕ
client_key (clients.Hardware bytes) = codes "hw-address"
client_key (clients.Duid bytes) = codes "duid"
client_key (clients.Circuit bytes) = codes "circuit-id"
client_key (clients.ClientId bytes) = codes "client-id"

-- an address, if there is one, is of the prefix
abbrev pub lies_in : Prefix → Option ℕ → Bool
lies_in prefix None = true
lies_in prefix (Some a) = has_address prefix a

-- the key of what is wrong with a reservation: its address, or its client if there is no address
-- or it may be reserved after earlier ones
abbrev pub wrong_key : Prefix → List ℕ → Reservation → List ℕ
wrong_key prefix earlier r =
    if may_reserve prefix earlier r then client_key r.identity else codes "ip-address"

-- the addresses that are reserved in subnets
abbrev pub all_reserved : List Subnet → List ℕ
all_reserved subnets = flat_map (λ subnet. reserved subnet.reservations) subnets

-- how many of these subnets are in the network with a number, or in none if it is 0
abbrev pub in_network : ℕ → List Subnet → ℕ
in_network number subnets = count_by (λ s. s.network == number) subnets

-- the path of the list of subnets of the network with a number, or of those that are in none
abbrev pub subnets_path : ℕ → List ℕ
subnets_path number =
    if number == 0 then codes "/Dhcp4/subnet4"
    else codes "/Dhcp4/shared-networks/" ++ decimal (number - 1) ++ codes "/subnet4"

-- the path of a subnet after earlier ones: its index counts those that are in the same network
abbrev pub subnet_path : List Subnet → Subnet → List ℕ
subnet_path earlier s =
    path_below (subnets_path s.network) (decimal (in_network s.network earlier))

-- a subnet with these pools and no reservations
abbrev pub with_pools : Subnet → List Pool → Subnet
with_pools subnet pools = record subnet { pools = pools; reservations = [] }

-- a subnet with all its pools and these reservations
abbrev pub with_reservations : Subnet → List Reservation → Subnet
with_reservations subnet reservations = record subnet { reservations = reservations }

-- the values before a place pass a test, but not together with the value at the place
pub record FailsAt {A : Type 0} (test : List A → Bool) (values : List A) (place : ℕ)
    (value : A) : Type 0 where
  pub value_at : slice_get values place ≡ Some value
  pub before : test (take place values) ≡ true
  pub with_it : test (take (place + 1) values) ≡ false

-- the first pool that fails a test, in the list at a path: it is outside its prefix, or overlaps
pub record PoolFails (test : List Pool → Bool) (path : List ℕ) (prefix : Prefix)
    (pools : List Pool) (fault : ConfigFault) : Type 0 where
  pub place : ℕ
  pub pool : Pool
  pub first : FailsAt test pools place pool
  pub number : config_fault_number fault ≡ (if lies_within prefix pool then 75 else 74)
  pub named : fault_path fault ≡ path_below (path_below path (decimal place)) (codes "pool")

-- the first reservation that fails a test, in the list at a path and after earlier addresses: its
-- address is outside its prefix, or it repeats an earlier one
pub record ReservationFails (test : List Reservation → Bool) (path earlier : List ℕ)
    (prefix : Prefix) (reservations : List Reservation) (fault : ConfigFault) : Type 0 where
  pub place : ℕ
  pub reservation : Reservation
  pub first : FailsAt test reservations place reservation
  pub number : config_fault_number fault
      ≡ (if lies_in prefix reservation.address then 76 else 74)
  pub named : fault_path fault ≡ path_below (path_below path (decimal place))
      (wrong_key prefix (earlier ++ reserved (take place reservations)) reservation)

-- the subnet at a path fails a test because of one of its pools, or with all of them because of a
-- reservation
abbrev pub SubnetFails : (Subnet → Bool) → List ℕ → List ℕ → Subnet → ConfigFault → Type 0
SubnetFails test path earlier subnet fault =
    PoolFails (λ pools. test (with_pools subnet pools)) (path_below path (codes "pools"))
    subnet.prefix subnet.pools fault
    ⊎ ReservationFails (λ reservations. test (with_reservations subnet reservations))
    (path_below path (codes "reservations")) earlier subnet.prefix subnet.reservations fault

-- the first subnet that fails a test of it and the subnets before it
pub record SubnetsFail (test : List Subnet → Bool) (subnets : List Subnet) (fault : ConfigFault)
    : Type 0 where
  pub place : ℕ
  pub subnet : Subnet
  pub subnet_at : slice_get subnets place ≡ Some subnet
  pub value : SubnetFails (λ s. test (take place subnets ++ s ∷ []))
      (subnet_path (take place subnets) subnet) (all_reserved (take place subnets)) subnet fault

-- there are settings; a value of their subnets is the first that breaks a rule
pub record BreaksRule (spelled : Option Settings) (fault : ConfigFault) : Type 0 where
  pub settings : Settings
  pub given : spelled ≡ Some settings
  pub broken : SubnetsFail may_stand settings.subnets fault

-- there are settings whose subnets obey the rules
pub record KeepsRules (spelled : Option Settings) : Type 0 where
  pub settings : Settings
  pub kept : accepted spelled ≡ Some settings

-- this is the first fault of the settings that a text spells, or of a text that spells none: of the
-- settings, of the rules, or of the classes
abbrev pub IsFaultOfSettings : Option Settings → ConfigFault → Type 0
IsFaultOfSettings spelled faults.Json = spelled ≡ None
IsFaultOfSettings spelled (faults.Missing path) = spelled ≡ None
IsFaultOfSettings spelled (faults.Unknown path) = spelled ≡ None
IsFaultOfSettings spelled (faults.BadValue path) = spelled ≡ None
IsFaultOfSettings spelled (faults.PoolOutside path) = BreaksRule spelled (faults.PoolOutside path)
IsFaultOfSettings spelled (faults.Overlap path) = BreaksRule spelled (faults.Overlap path)
IsFaultOfSettings spelled (faults.DuplicateReservation path) =
    BreaksRule spelled (faults.DuplicateReservation path)
IsFaultOfSettings spelled (faults.Expression number why) = KeepsRules spelled
IsFaultOfSettings spelled (faults.Tokens number why) = KeepsRules spelled
IsFaultOfSettings spelled (faults.Class why) = KeepsRules spelled
IsFaultOfSettings spelled faults.Memory = Unit {0}

-- this is the first fault of a text
abbrev pub IsFaultOfText : List ℕ → ConfigFault → Type 0
IsFaultOfText text fault = IsFaultOfSettings (settings_spelled text) fault
