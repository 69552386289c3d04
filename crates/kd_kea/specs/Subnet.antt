-- A subnet in a configuration of Kea's: a prefix, its class, pools, reservations and options.
use Rattle.std.specs.Prelude.{ℕ, Bool, true, false, not, ◌||◌, List, [], codes, Option, Some, None}
use Rattle.std.specs.List.{list_all, list_any}
use Rattle.serde_json.specs.Data.{Data, string}
use Rattle.serde_json.specs.Find.{get}
use Rattle.kd_classes.specs.Boot.{boot_or}
use Rattle.kd_config.specs.Address.{has_address}
use Rattle.kd_config.specs.Apart.{has}
use Rattle.kd_config.specs.Classed.{class_list}
use Rattle.kd_config.specs.declared.pool.Pool.{Pool}
use Rattle.kd_config.specs.declared.reservation.Reservation.{Reservation}
use Rattle.kd_config.specs.declared.prefix.Prefix.{Prefix}
use Rattle.kd_config.specs.declared.subnet.Subnet.{Subnet}
use Rattle.kd_fields.specs.Lists.{list_of}
use Rattle.kd_fields.specs.Steps.{must}
use Rattle.kd_json.specs.Subnet.{subnet_prefix}
use Rattle.kd_fields.specs.Values.{number_if_given, text_if_given}
use Rattle.kd_keys.specs.Boot.{kea_boot}
use Rattle.kd_keys.specs.HostName.{has_bare_names}
use Rattle.kd_keys.specs.Keys.{is_plain, keys_are_read, word}
use Rattle.kd_kea.specs.Lifetimes.{kea_keys, term_unless_alike}
use Rattle.kd_keys.specs.Options.{kea_options}
use Rattle.kd_keys.specs.Parts.{parts_of_all}
use Rattle.kd_keys.specs.Policy.{repeats_policy}
use Rattle.kd_kea.specs.Pool.{kea_pool}
use Rattle.kd_keys.specs.Relay.{relays_of}
use Rattle.kd_kea.specs.Reservation.{kea_reservation}
use Rattle.kd_keys.specs.Tables.{subnet_keys}
use Rattle.kd_keys.specs.Values.{flag_or, unless_empty}
use Rattle.kd_keys.specs.declared.definition.DefinedOption.{DefinedOption}
use Rattle.kd_kea.specs.declared.objects.subnet.Above.{Above}
use Rattle.kd_wire.specs.Steps.{◌>>=◌}

-- a subnet's interface, if it is given, is the one with the server's address: a text that is empty,
-- or any text if the address is in the subnet's prefix
abbrev pub is_at_server : ℕ → Prefix → Option Data → Bool
is_at_server server prefix None = true
is_at_server server prefix (Some (string text)) =
    is_plain (word []) (string text) || has_address prefix server
is_at_server server prefix (Some d) = false

-- no pool has an address, or there is no address
abbrev pub is_in_none : List Pool → Option ℕ → Bool
is_in_none pools None = true
is_in_none pools (Some address) = not (list_any (λ pool. has pool.range address) pools)

-- no pool has the address of a reservation, if it has one
abbrev pub lies_outside : List Pool → Reservation → Bool
lies_outside pools reservation = is_in_none pools reservation.address

-- reservations may stand beside pools: if Kea looks for reservations outside pools alone, no pool has
-- the address of one
abbrev pub stand_beside : Bool → List Pool → List Reservation → Bool
stand_beside outside pools reservations =
    not outside || list_all (lies_outside pools) reservations

-- what holds in a subnet, or in a network above its members: what its own keys say, and else what holds
-- above it
unfoldable pub above_within : Above → Data → Option Above
above_within above d = do
  keys ← kea_keys above.keys d
  outside ← flag_or above.outside (get (codes "reservations-out-of-pool") d)
  boot ← kea_boot d
  Some (record { server = above.server; times = above.times; keys = keys; by_class = above.by_class; outside = outside; kinds = above.kinds; bare = has_bare_names above.bare d; policy = above.policy; boot = boot_or boot above.boot })

-- the subnet of a prefix and classes with the lists in a value, by these definitions of options,
-- where this holds in it. It is in no network
unfoldable pub kea_subnet_with : List DefinedOption → Above → Prefix → List (List ℕ) → Data → Option Subnet
kea_subnet_with known within prefix classes d = do
  relays ← relays_of (get (codes "relay") d)
  pools ← list_of 64 (kea_pool known) (get (codes "pools") d) >>= parts_of_all
  reservations ← list_of 4096 (kea_reservation known within.kinds within.bare) (get (codes "reservations") d)
  _ ← must (stand_beside within.outside pools reservations)
  options ← kea_options false known (get (codes "option-data") d)
  Some (record { prefix = prefix; relays = relays; classes = classes; pools = pools; reservations = reservations; options = options; network = 0; shared = []; boot = within.boot; term = term_unless_alike within })

-- a value has the keys of a subnet; its `id` is checked but not used
unfoldable pub has_subnet_form : Above → Data → Option (Unit {0})
has_subnet_form above d = do
  _ ← must (keys_are_read subnet_keys d)
  _ ← must (repeats_policy above.policy d)
  _ ← number_if_given 1 4294967294 1 (get (codes "id") d)
  Some tt

-- the subnet that a value describes, below what holds for the whole server or its network; an empty
-- class is none
unfoldable pub kea_subnet : Above → List DefinedOption → Data → Option Subnet
kea_subnet above known d = do
  _ ← has_subnet_form above d
  prefix ← get (codes "subnet") d >>= subnet_prefix
  _ ← must (is_at_server above.server prefix (get (codes "interface") d))
  class ← text_if_given (get (codes "client-class") d)
  within ← above_within above d
  kea_subnet_with known within prefix (class_list (unless_empty class)) d
