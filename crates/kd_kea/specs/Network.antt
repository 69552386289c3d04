-- A shared network in a configuration of Kea's: subnets on one link. What is said of the network
-- holds for each of its subnets, its members (Kea Administrator Reference Manual, section Shared
-- Networks in DHCPv4).
use Rattle.std.specs.Prelude.{ℕ, ◌+◌, Bool, true, false, ◌||◌, List, [], ◌∷◌, ◌++◌, length, map, nat_le, codes, Option, Some, None, is_some}
use Rattle.std.specs.List.{list_any}
use Rattle.serde_json.specs.Data.{Data, string}
use Rattle.serde_json.specs.Find.{as_str, get}
use Rattle.kd_config.specs.Address.{has_address}
use Rattle.kd_config.specs.Classed.{class_list}
use Rattle.kd_config.specs.declared.subnet.Subnet.{Subnet}
use Rattle.kd_fields.specs.Lists.{list_of}
use Rattle.kd_fields.specs.Steps.{must, only_if}
use Rattle.kd_fields.specs.Values.{text_if_given}
use Rattle.kd_keys.specs.Keys.{is_plain, keys_are_read, word}
use Rattle.kd_keys.specs.Options.{kea_options}
use Rattle.kd_keys.specs.Policy.{repeats_policy}
use Rattle.kd_keys.specs.Relay.{relays_of}
use Rattle.kd_kea.specs.Subnet.{above_within, kea_subnet}
use Rattle.kd_keys.specs.Tables.{network_keys}
use Rattle.kd_keys.specs.Values.{unless_empty}
use Rattle.kd_keys.specs.declared.definition.DefinedOption.{DefinedOption}
use Rattle.kd_kea.specs.declared.objects.network.Common.{Common}
use Rattle.kd_kea.specs.declared.objects.subnet.Above.{Above}
use Rattle.kd_wire.specs.Steps.{◌>>=◌}

-- an address is in the prefix of one of these subnets
abbrev pub is_in_one_of : List Subnet → ℕ → Bool
is_in_one_of members address = list_any (λ member. has_address member.prefix address) members

-- a network's interface, if it is given, is the one with the server's address: a text that is
-- empty, or any text if the address is in the network
abbrev pub is_interface_of : Bool → Option Data → Bool
is_interface_of inside None = true
is_interface_of inside (Some (string text)) = is_plain (word []) (string text) || inside
is_interface_of inside (Some d) = false

-- the relays of a member: its own, or those of its network if it names none
abbrev pub relays_or : List ℕ → List ℕ → List ℕ
relays_or [] others = others
relays_or (relay ∷ relays) others = relay ∷ relays

-- a subnet as a member of a network that has this in common: it requires its own class and that of
-- the network. It has no number yet
unfoldable pub as_member : Common → Subnet → Subnet
as_member common subnet =
    record {
      prefix = subnet.prefix;
      relays = relays_or subnet.relays common.relays;
      classes = subnet.classes ++ common.classes;
      pools = subnet.pools;
      reservations = subnet.reservations;
      options = subnet.options;
      network = 0;
      shared = common.options;
      boot = subnet.boot;
      term = subnet.term;
    }

-- the member that a value describes
unfoldable pub kea_member : Above → List DefinedOption → Common → Data → Option Subnet
kea_member above known common d = do
  subnet ← kea_subnet above known d
  Some (as_member common subnet)

-- a value has the keys of a network; its name is not used
unfoldable pub has_network_form : Above → Data → Option (Unit {0})
has_network_form above d = do
  _ ← must (keys_are_read network_keys d)
  _ ← must (repeats_policy above.policy d)
  must (is_some (get (codes "name") d >>= as_str))

-- what the members of a network have in common; an empty class is none
unfoldable pub kea_common : List DefinedOption → Data → Option Common
kea_common known d = do
  relays ← relays_of (get (codes "relay") d)
  class ← text_if_given (get (codes "client-class") d)
  options ← kea_options false known (get (codes "option-data") d)
  Some (record { relays = relays; classes = class_list (unless_empty class); options = options })

-- the members of the network that a value describes, below what holds for the whole server
unfoldable pub kea_network : Above → List DefinedOption → Data → Option (List Subnet)
kea_network above known d = do
  _ ← has_network_form above d
  common ← kea_common known d
  within ← above_within above d
  members ← list_of 64 (kea_member within known common) (get (codes "subnet4") d)
  _ ← must (is_interface_of (is_in_one_of members above.server) (get (codes "interface") d))
  Some members

-- a member of the network with a number
abbrev pub with_network : ℕ → Subnet → Subnet
with_network number subnet =
    record {
      prefix = subnet.prefix;
      relays = subnet.relays;
      classes = subnet.classes;
      pools = subnet.pools;
      reservations = subnet.reservations;
      options = subnet.options;
      network = number;
      shared = subnet.shared;
      boot = subnet.boot;
      term = subnet.term;
    }

-- the members of networks, each with the number of its network: this one for the first
abbrev pub numbered : ℕ → List (List Subnet) → List Subnet
numbered number [] = []
numbered number (members ∷ networks) =
    map (with_network number) members ++ numbered (number + 1) networks

-- the members of networks, and then other subnets: at most 256 together
abbrev pub all_subnets : List (List Subnet) → List Subnet → Option (List Subnet)
all_subnets networks others =
    only_if (nat_le (length (numbered 1 networks ++ others)) 256) (numbered 1 networks ++ others)

-- the subnets in the value of `Dhcp4`: the members of its networks, and then those in no network
unfoldable pub kea_subnets : Above → List DefinedOption → Data → Option (List Subnet)
kea_subnets above known d = do
  networks ← list_of 256 (kea_network above known) (get (codes "shared-networks") d)
  others ← list_of 256 (kea_subnet above known) (get (codes "subnet4") d)
  all_subnets networks others
