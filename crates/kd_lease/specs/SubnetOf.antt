-- The subnet that serves a message (RFC 2131 section 4.3.1; RFC 3527; Kea Administrator Reference
-- Manual, sections How the DHCPv4 Server Selects a Subnet for the Client and Using a Specific Relay
-- Agent for a Subnet).
use Rattle.std.specs.Prelude.{ℕ, Bool, true, not, ◌&&◌, ◌==◌, is_none, List, Option, None, option_map, if◌then◌else◌}
use Rattle.std.specs.List.{find, list_any}
use Rattle.kd_config.specs.Address.{has_address}
use Rattle.kd_config.specs.Classed.{classes_admit}
use Rattle.kd_config.specs.Configuration.{Configuration}
use Rattle.kd_config.specs.Networks.{home_of}
use Rattle.kd_config.specs.declared.subnet.Subnet.{Subnet}
use Rattle.kd_options.specs.Message.{Seen}
use Rattle.kd_wire.specs.declared.header.Header.{Header}
use Rattle.kd_lease.specs.Client.{address_or, selected_link}

-- the link that the relay of a message selects (RFC 3527), in configurations that let relays do so
abbrev pub link_of : Configuration → Seen → Option ℕ
link_of config m =
    if config.extensions.selects_links && not (m.header.giaddr == 0) then selected_link m else None

-- where a message with this header comes from: its relay, or else the address that its client has,
-- or else the server's address
abbrev pub header_place : ℕ → Header → ℕ
header_place server h =
    if not (h.giaddr == 0) then h.giaddr else if not (h.ciaddr == 0) then h.ciaddr else server

-- where a message comes from: the link that its relay selects, or else what its header says
abbrev pub message_place : Configuration → Seen → ℕ
message_place config m = address_or (link_of config m) (header_place config.server m.header)

-- a subnet names this address as that of a relay of its own
abbrev pub has_relay : ℕ → Subnet → Bool
has_relay a subnet = list_any (λ relay. relay == a) subnet.relays

-- a subnet has this place: by a relay of its own, or else by its prefix
abbrev pub has_place : Bool → ℕ → Subnet → Bool
has_place by_relay place subnet =
    if by_relay then has_relay place subnet else has_address subnet.prefix place

-- a subnet serves this place and a client in the classes with these names
abbrev pub served_by : Bool → ℕ → List (List ℕ) → Subnet → Bool
served_by by_relay place names subnet =
    has_place by_relay place subnet && classes_admit subnet.classes names

-- a message, whose classes have these names, comes from a relay that a subnet names as its own, and
-- the relay selects no link
abbrev pub is_by_relay : Configuration → List (List ℕ) → Seen → Bool
is_by_relay config names m =
    is_none (link_of config m)
    && (not (m.header.giaddr == 0) && list_any (served_by true m.header.giaddr names) config.subnets)

-- the first subnet of the configuration that serves a message whose classes have these names; a
-- relay that a subnet names as its own comes before all prefixes
abbrev pub first_serving : Configuration → List (List ℕ) → Seen → Option Subnet
first_serving config names m =
    find (served_by (is_by_relay config names m) (message_place config m) names) config.subnets

-- the subnet in which such a message is served: the shared network of that subnet, or itself if it
-- is in none
unfoldable pub subnet_serving : Configuration → List (List ℕ) → Seen → Option Subnet
subnet_serving config names m =
    option_map (home_of config.subnets) (first_serving config names m)
