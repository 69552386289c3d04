-- What every configuration obeys (our own format): each value is in its range, each list is within
-- its limit, and the rules over the whole hold.
use Rattle.std.specs.Prelude.{◌≡◌, ℕ, ◌+◌, ◌-◌, ◌^◌, ◌<◌, ◌≤◌, nat_eq, true, false, List, [], ◌∷◌, length, IfSome}
use Rattle.std.specs.List.{AllByRecursion, list_any}
use Rattle.kd_classes.specs.HeldSet.{IsAccepted}
use Rattle.kd_classes.specs.Order.{AreInOrder}
use Rattle.kd_classes.specs.declared.boot.Boot.{Boot}
use Rattle.kd_classes.specs.declared.definition.ClassDef.{ClassDef}
use Rattle.kd_classes.specs.declared.lifetime.Lifetime.{Lifetime}
use Rattle.kd_classes.specs.declared.option_list.OptionData.{OptionData}
use Rattle.kd_config.specs.Address.{network_address, prefix_size}
use Rattle.kd_config.specs.Configuration.{Configuration}
use Rattle.kd_config.specs.Options.{code_among, own_codes}
use Rattle.kd_config.specs.Rules.{may_stand}
use Rattle.kd_config.specs.declared.pool.Pool.{Pool}
use Rattle.kd_config.specs.declared.prefix.Prefix.{Prefix}
use Rattle.kd_config.specs.declared.range.Range.{Range}
use Rattle.kd_config.specs.declared.reservation.Identity.{Identity}
use Rattle.kd_config.specs.declared.reservation.Identity.TheVariants as clients
use Rattle.kd_config.specs.declared.reservation.Reservation.{Reservation}
use Rattle.kd_config.specs.declared.subnet.Subnet.{Subnet}
use Rattle.kd_config.specs.declared.times.Times.{Times}
use Rattle.kd_options.specs.Laws.{IsField}

-- a number in the range from `least` to `most`
pub record IsFrom (least most number : ℕ) : Type 0 where
  pub above : least ≤ number
  pub below : number ≤ most

-- an option that may be configured: its code is not one that the server generates itself
pub record IsOption (option : OptionData) : Type 0 where
  pub code : IsFrom 1 254 option.code
  pub free : list_any (nat_eq option.code) own_codes ≡ false
  pub value : length option.value ≤ 1024

-- no two of these options have the same code
abbrev pub HaveOwnCodes : List OptionData → Type 0
HaveOwnCodes [] = Unit {0}
HaveOwnCodes (option ∷ options) = (code_among option.code options ≡ false) × HaveOwnCodes options

-- a list of options: at most 64, with no code twice
pub record AreOptions (options : List OptionData) : Type 0 where
  pub few : length options ≤ 64
  pub each : AllByRecursion IsOption options
  pub own : HaveOwnCodes options

-- what may be given to the boot fields of a reply: a number and two fields of bytes of their sizes
pub record IsBoot (boot : Boot) : Type 0 where
  pub next_server : IfSome boot.next_server (λ address. address < 2 ^ 32)
  pub server_name : IfSome boot.server_name (IsField 64)
  pub file_name : IfSome boot.file_name (IsField 128)

-- the longest lease time, in seconds
abbrev pub longest_lease : ℕ
longest_lease = 2147483647

-- lease and offer times: T1 is at most T2, and T2 at most the lifetime
pub record AreTimes (times : Times) : Type 0 where
  pub lifetime : IsFrom 1 longest_lease times.lifetime
  pub renew : times.renew ≤ times.rebind
  pub rebind : times.rebind ≤ times.lifetime
  pub offer_hold : IsFrom 1 86400 times.offer_hold
  pub decline_hold : IsFrom 1 31536000 times.decline_hold

-- lifetimes: the bounds and what is between them
pub record IsLifetime (lifetime : Lifetime) : Type 0 where
  pub some : 1 ≤ lifetime.least
  pub above : lifetime.least ≤ lifetime.usual
  pub below : lifetime.usual ≤ lifetime.most
  pub bounded : lifetime.most ≤ longest_lease

-- a class: its test is an accepted program; the program's names are checked with the order of
-- classes
pub record IsClass (def : ClassDef) : Type 0 where
  pub name : IsFrom 1 255 (length def.name)
  pub test : IsAccepted def
  pub options : AreOptions def.options
  pub boot : IsBoot def.boot
  pub lifetime : IfSome def.lifetime IsLifetime

-- a prefix: its address has no bits set after its length, and its addresses end within 32 bits
pub record IsPrefix (prefix : Prefix) : Type 0 where
  pub length : prefix.length ≤ 32
  pub clear : network_address prefix.address prefix.length ≡ prefix.address
  pub within : prefix.address + prefix_size prefix.length ≤ 2 ^ 32

-- the addresses of a pool: at least 1, at most 65,536
pub record IsRange (range : Range) : Type 0 where
  pub some : range.first ≤ range.last
  pub few : range.last - range.first < 65536

-- a pool
pub record IsPool (pool : Pool) : Type 0 where
  pub range : IsRange pool.range
  pub options : AreOptions pool.options

-- a client, by its hardware address, or by its DUID, its circuit or its identifier
abbrev pub IsIdentity : Identity → Type 0
IsIdentity (clients.Hardware bytes) = IsFrom 1 16 (length bytes)
IsIdentity (clients.Duid bytes) = IsFrom 1 255 (length bytes)
IsIdentity (clients.Circuit bytes) = IsFrom 1 255 (length bytes)
IsIdentity (clients.ClientId bytes) = IsFrom 1 255 (length bytes)

-- a reservation
pub record IsReservation (reservation : Reservation) : Type 0 where
  pub identity : IsIdentity reservation.identity
  pub options : AreOptions reservation.options
  pub boots : AllByRecursion IsBoot reservation.boots

-- a subnet
pub record IsSubnet (subnet : Subnet) : Type 0 where
  pub prefix : IsPrefix subnet.prefix
  pub few_relays : length subnet.relays ≤ 64
  pub few_pools : length subnet.pools ≤ 64
  pub pools : AllByRecursion IsPool subnet.pools
  pub few_reservations : length subnet.reservations ≤ 4096
  pub reservations : AllByRecursion IsReservation subnet.reservations
  pub options : AreOptions subnet.options
  pub shared : AreOptions subnet.shared
  pub boot : IsBoot subnet.boot
  pub term : IfSome subnet.term (λ term. IsLifetime term.lifetime)

-- subnets that are accepted together
pub record AreSubnets (subnets : List Subnet) : Type 0 where
  pub few : length subnets ≤ 256
  pub each : AllByRecursion IsSubnet subnets
  pub together : may_stand subnets ≡ true

-- classes that are in order
pub record AreClasses (defs : List ClassDef) : Type 0 where
  pub each : AllByRecursion IsClass defs
  pub ordered : AreInOrder defs

-- a configuration
pub record IsSound (c : Configuration) : Type 0 where
  pub server : 1 ≤ c.server
  pub times : AreTimes c.times
  pub options : AreOptions c.options
  pub classes : AreClasses c.classes
  pub subnets : AreSubnets c.subnets
