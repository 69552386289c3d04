-- The members of the networks that a text of Kea's describes obey what every subnet obeys.
use Rattle.std.proofs.Common.{◌≡◌, ◌≤◌, ℕ, ◌+◌, false, nat_le, List, [], ◌∷◌, ◌++◌, length, map, codes, Some, subst}
use Rattle.std.specs.List.{AllByRecursion}
use borrow.Author.Tests.{leb-true}
use Rattle.serde_json.specs.Data.{Data}
use Rattle.serde_json.specs.Find.{get}
use Rattle.kd_config.proofs.Tests.{some_is}
use Rattle.kd_config.specs.Sound.{AreOptions, IsSubnet}
use Rattle.kd_config.specs.declared.subnet.Subnet.{Subnet}
use Rattle.kd_json.proofs.Came.{came_from, each_meant, passed, passed_only}
use Rattle.kd_fields.specs.Lists.{list_of}
use Rattle.kd_fields.specs.Values.{text_if_given}
use Rattle.kd_kea.proofs.SoundParts.{each_of_both}
use Rattle.kd_kea.proofs.SoundSubnets.{IsAbove, relays_few, subnet_sound, within_sound}
use Rattle.kd_kea.proofs.Sounds.{options_sound}
use Rattle.kd_kea.specs.Network.{as_member, has_network_form, is_in_one_of, is_interface_of, kea_common, kea_member, kea_network, kea_subnets, numbered, relays_or, with_network}
use Rattle.kd_keys.specs.Options.{kea_options}
use Rattle.kd_keys.specs.Relay.{relays_of}
use Rattle.kd_kea.specs.Subnet.{above_within, kea_subnet}
use Rattle.kd_keys.specs.declared.definition.DefinedOption.{DefinedOption}
use Rattle.kd_kea.specs.declared.objects.network.Common.{Common}
use Rattle.kd_kea.specs.declared.objects.subnet.Above.{Above}

-- what the members of a network have in common is what a subnet may have
record IsCommon (common : Common) : Type 0 where
  relays : length common.relays ≤ 64
  options : AreOptions common.options

common_sound : (known : List DefinedOption) (d : Data) (common : Common) → kea_common known d ≡ Some common → IsCommon common
unfolding kea_common
common_sound known d common e =
    let relays = came_from (relays_of (get (codes "relay") d)) _ common e in
    let class = came_from (text_if_given (get (codes "client-class") d)) _ common relays.gives in
    let options = came_from (kea_options false known (get (codes "option-data") d)) _ common class.gives in
    subst IsCommon (some_is _ common options.gives) (record {
      relays = relays_few (get (codes "relay") d) relays.first relays.is;
      options = options_sound known (get (codes "option-data") d) options.first options.is;
    })

relays_or_few : (own others : List ℕ) → length own ≤ 64 → length others ≤ 64 → length (relays_or own others) ≤ 64
relays_or_few [] others few more = more
relays_or_few (relay ∷ relays) others few more = few

as_member_sound : (common : Common) (subnet : Subnet) → IsCommon common → IsSubnet subnet → IsSubnet (as_member common subnet)
unfolding as_member
as_member_sound common subnet shared sound =
    record {
      prefix = sound.prefix;
      few_relays = relays_or_few subnet.relays common.relays sound.few_relays shared.relays;
      few_pools = sound.few_pools;
      pools = sound.pools;
      few_reservations = sound.few_reservations;
      reservations = sound.reservations;
      options = sound.options;
      shared = shared.options;
      boot = sound.boot;
      term = sound.term;
    }

member_sound : (above : Above) → IsAbove above → (known : List DefinedOption) (common : Common) → IsCommon common → (d : Data) (member : Subnet) → kea_member above known common d ≡ Some member → IsSubnet member
unfolding kea_member
member_sound above given known common shared d member e =
    let subnet = came_from (kea_subnet above known d) _ member e in
    subst IsSubnet (some_is (as_member common subnet.first) member subnet.gives) (as_member_sound common subnet.first shared (subnet_sound above given known d subnet.first subnet.is))

network_sound : (above : Above) → IsAbove above → (known : List DefinedOption) (d : Data) (members : List Subnet) → kea_network above known d ≡ Some members → AllByRecursion IsSubnet members
unfolding kea_network
network_sound above given known d members e =
    let form = came_from (has_network_form above d) _ members e in
    let common = came_from (kea_common known d) _ members form.gives in
    let within = came_from (above_within above d) _ members common.gives in
    let inner = within.first in
    let inner_given = within_sound above given d inner within.is in
    let read = came_from (list_of 64 (kea_member inner known common.first) (get (codes "subnet4") d)) _ members within.gives in
    let here = passed (is_interface_of (is_in_one_of read.first above.server) (get (codes "interface") d)) _ members read.gives in
    let shared = common_sound known d common.first common.is in
    subst (AllByRecursion IsSubnet) (some_is read.first members here.1)
    (each_meant IsSubnet (kea_member inner known common.first) (member_sound inner inner_given known common.first shared) 64 (get (codes "subnet4") d) read.first read.is)

-- a number changes nothing of it
with_network_sound : (number : ℕ) (subnet : Subnet) → IsSubnet subnet → IsSubnet (with_network number subnet)
with_network_sound number subnet sound =
    record {
      prefix = sound.prefix;
      few_relays = sound.few_relays;
      few_pools = sound.few_pools;
      pools = sound.pools;
      few_reservations = sound.few_reservations;
      reservations = sound.reservations;
      options = sound.options;
      shared = sound.shared;
      boot = sound.boot;
      term = sound.term;
    }

with_networks_sound : (number : ℕ) (subnets : List Subnet) → AllByRecursion IsSubnet subnets → AllByRecursion IsSubnet (map (with_network number) subnets)
with_networks_sound number [] sound = tt
with_networks_sound number (subnet ∷ subnets) sound =
    (with_network_sound number subnet sound.0, with_networks_sound number subnets sound.1)

numbered_sound : (number : ℕ) (networks : List (List Subnet)) → AllByRecursion (AllByRecursion IsSubnet) networks → AllByRecursion IsSubnet (numbered number networks)
numbered_sound number [] sound = tt
numbered_sound number (members ∷ networks) sound =
    each_of_both IsSubnet (map (with_network number) members) (numbered (number + 1) networks)
    (with_networks_sound number members sound.0) (numbered_sound (number + 1) networks sound.1)

-- the subnets of the whole server are subnets of a configuration, and at most 256
pub subnets_sound : (above : Above) → IsAbove above → (known : List DefinedOption) (d : Data) (subnets : List Subnet) → kea_subnets above known d ≡ Some subnets → (length subnets ≤ 256) × AllByRecursion IsSubnet subnets
unfolding kea_subnets
subnets_sound above given known d subnets e =
    let networks = came_from (list_of 256 (kea_network above known) (get (codes "shared-networks") d)) _ subnets e in
    let others = came_from (list_of 256 (kea_subnet above known) (get (codes "subnet4") d)) _ subnets networks.gives in
    let all = numbered 1 networks.first ++ others.first in
    let few = passed_only (nat_le (length all) 256) all subnets others.gives in
    let members = each_meant (AllByRecursion IsSubnet) (kea_network above known) (network_sound above given known) 256 (get (codes "shared-networks") d) networks.first networks.is in
    let single = each_meant IsSubnet (kea_subnet above known) (subnet_sound above given known) 256 (get (codes "subnet4") d) others.first others.is in (
      subst (λ (xs : List Subnet). length xs ≤ 256) few.1 (leb-true (length all) 256 few.0),
      subst (AllByRecursion IsSubnet) few.1 (each_of_both IsSubnet (numbered 1 networks.first) others.first (numbered_sound 1 networks.first members) single),
    )
