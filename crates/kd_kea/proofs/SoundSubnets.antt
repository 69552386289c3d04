-- A subnet that a text of Kea's describes obeys what every subnet obeys.
use Rattle.std.proofs.Common.{◌≡◌, ◌≤◌, ℕ, ◌-◌, nat_lt, Bool, false, List, [], ◌∷◌, length, arith, codes, Option, None, Some, option_map, subst}
use Rattle.std.specs.Prelude.{option_and_then}
use Rattle.kd_config.proofs.Tests.{some_is}
use Rattle.kd_config.specs.Sound.{IsBoot, IsReservation, IsSubnet}
use Rattle.kd_config.specs.declared.pool.Pool.{Pool}
use Rattle.kd_config.specs.declared.range.Range.{Range}
use Rattle.kd_config.specs.declared.reservation.Reservation.{Reservation}
use Rattle.kd_config.specs.declared.subnet.Subnet.{Subnet}
use Rattle.kd_json.proofs.Came.{came_from, each_meant, few_meant, passed, passed_only}
use Rattle.kd_json.proofs.SoundSettings.{prefix_in_sound, addresses_in_rise}
use Rattle.kd_fields.specs.Lists.{list_of}
use Rattle.kd_json.specs.Pool.{pool_addresses}
use Rattle.kd_json.specs.Subnet.{subnet_prefix}
use Rattle.kd_fields.specs.Values.{address_given, text_if_given}
use Rattle.kd_kea.proofs.SoundBoot.{boot_sound, listed_sound, or_sound, own_sound}
use Rattle.kd_kea.proofs.SoundClients.{client_sound}
use Rattle.kd_kea.proofs.SoundLifetimes.{AreTermKeys, keys_sound, term_sound}
use Rattle.kd_kea.proofs.SoundNames.{host_options_sound}
use Rattle.kd_kea.proofs.SoundParts.{IsWide, parts_sound}
use Rattle.kd_kea.proofs.Sounds.{options_sound}
use Rattle.kd_keys.specs.Boot.{kea_boot, own_boot}
use Rattle.kd_keys.specs.HostClient.{kea_client}
use Rattle.kd_keys.specs.HostKinds.{are_all_found}
use Rattle.kd_keys.specs.HostName.{host_options}
use Rattle.kd_keys.specs.Keys.{keys_are_read}
use Rattle.kd_kea.specs.Lifetimes.{kea_keys}
use Rattle.kd_keys.specs.Options.{kea_options}
use Rattle.kd_keys.specs.Parts.{parts_of_all}
use Rattle.kd_kea.specs.Pool.{kea_pool, kea_range}
use Rattle.kd_keys.specs.Relay.{kea_relay, relays_by, relays_of}
use Rattle.kd_kea.specs.Reservation.{address_if_given, kea_reservation}
use Rattle.kd_kea.specs.Subnet.{above_within, stand_beside, has_subnet_form, is_at_server, kea_subnet, kea_subnet_with}
use Rattle.kd_keys.specs.ClassNames.{classes_given}
use Rattle.kd_keys.specs.Tables.{host_keys, pool_keys, relay_keys}
use Rattle.kd_keys.specs.Values.{flag_or}
use Rattle.kd_keys.specs.declared.definition.DefinedOption.{DefinedOption}
use Rattle.kd_keys.specs.declared.host_kinds.HostKinds.{HostKinds}
use Rattle.kd_kea.specs.declared.objects.subnet.Above.{Above}
use Rattle.kd_wire.specs.Steps.{◌>>=◌}
use Rattle.serde_json.specs.Data.{Data}
use Rattle.serde_json.specs.Find.{get}

range_rises : (d : Data) (range : Range) → kea_range d ≡ Some range → range.first ≤ range.last
unfolding kea_range
range_rises d range e =
    let found = came_from (pool_addresses d) _ range e in
    let few = passed_only (nat_lt (found.first.last - found.first.first) 4194304) found.first range found.gives in
    subst (λ (r : Range). r.first ≤ r.last) few.1 (addresses_in_rise d found.first found.is)

pool_sound : (known : List DefinedOption) (d : Data) (pool : Pool) → kea_pool known d ≡ Some pool → IsWide pool
unfolding kea_pool
pool_sound known d pool e =
    let keys = passed (keys_are_read pool_keys d) _ pool e in
    let range = came_from (option_and_then kea_range (get (codes "pool") d)) _ pool keys.1 in
    let class = came_from (text_if_given (get (codes "client-class") d)) _ pool range.gives in
    let options = came_from (kea_options false known (get (codes "option-data") d)) _ pool class.gives in
    let value = came_from (get (codes "pool") d) kea_range range.first range.is in
    subst IsWide (some_is _ pool options.gives) (record {
      some = range_rises value.first range.first value.gives;
      options = options_sound known (get (codes "option-data") d) options.first options.is;
    })

reservation_sound : (known : List DefinedOption) (kinds : HostKinds) (bare : Bool) (d : Data) (reservation : Reservation) → kea_reservation known kinds bare d ≡ Some reservation → IsReservation reservation
unfolding kea_reservation
reservation_sound known kinds bare d reservation e =
    let keys = passed (keys_are_read host_keys d) _ reservation e in
    let found = passed (are_all_found kinds d) _ reservation keys.1 in
    let client = came_from (kea_client d) _ reservation found.1 in
    let address = came_from (address_if_given (get (codes "ip-address") d)) _ reservation client.gives in
    let options = came_from (host_options known bare d) _ reservation address.gives in
    let boot = came_from (own_boot d) _ reservation options.gives in
    let joins = came_from (classes_given d) _ reservation boot.gives in
    subst IsReservation (some_is _ reservation joins.gives) (record {
      identity = client_sound d client.first client.is;
      options = host_options_sound known bare d options.first options.is;
      boots = listed_sound boot.first (own_sound d boot.first boot.is);
    })

-- a subnet has at most 64 relays
pub relays_few : (value : Option Data) (relays : List ℕ) → relays_of value ≡ Some relays → length relays ≤ 64
unfolding kea_relay
relays_few None relays e = subst (λ (rs : List ℕ). length rs ≤ 64) (some_is [] relays e) (omega arith)
relays_few (Some d) relays e =
    let keys = passed (keys_are_read relay_keys d) _ relays e in
    by_keys (get (codes "ip-addresses") d) (get (codes "ip-address") d) keys.1 where
      one : (read : Option ℕ) → option_map (λ address. address ∷ []) read ≡ Some relays → length relays ≤ 64
      one None h = absurd (cc)
      one (Some address) h = subst (λ (rs : List ℕ). length rs ≤ 64) (some_is (address ∷ []) relays h) (omega arith)

      by_keys : (many other : Option Data) → relays_by many other ≡ Some relays → length relays ≤ 64
      by_keys many None h = few_meant 64 address_given many relays h
      by_keys None (Some it) h = one (address_given it) h
      by_keys (Some many) (Some it) h = absurd (cc)

-- what holds above a subnet is what may hold in it
pub record IsAbove (above : Above) : Type 0 where
  pub boot : IsBoot above.boot
  pub keys : AreTermKeys above.keys

pub within_sound : (above : Above) → IsAbove above → (d : Data) (within : Above) → above_within above d ≡ Some within → IsAbove within
unfolding above_within
within_sound above sound d within e =
    let keys = came_from (kea_keys above.keys d) _ within e in
    let outside = came_from (flag_or above.outside (get (codes "reservations-out-of-pool") d)) _ within keys.gives in
    let boot = came_from (kea_boot d) _ within outside.gives in
    subst IsAbove (some_is _ within boot.gives) (record {
      boot = or_sound boot.first above.boot (boot_sound d boot.first boot.is) sound.boot;
      keys = keys_sound above.keys sound.keys d keys.first keys.is;
    })

pub subnet_sound : (above : Above) → IsAbove above → (known : List DefinedOption) (d : Data) (subnet : Subnet) → kea_subnet above known d ≡ Some subnet → IsSubnet subnet
unfolding kea_subnet kea_subnet_with
subnet_sound above given known d subnet e =
    let form = came_from (has_subnet_form above d) _ subnet e in
    let prefix = came_from (option_and_then subnet_prefix (get (codes "subnet") d)) _ subnet form.gives in
    let here = passed (is_at_server above.server prefix.first (get (codes "interface") d)) _ subnet prefix.gives in
    let class = came_from (text_if_given (get (codes "client-class") d)) _ subnet here.1 in
    let within = came_from (above_within above d) _ subnet class.gives in
    let sound = within_sound above given d within.first within.is in
    let relays = came_from (relays_of (get (codes "relay") d)) _ subnet within.gives in
    let pools = came_from (list_of 64 (kea_pool known) (get (codes "pools") d) >>= parts_of_all) _ subnet relays.gives in
    let whole = came_from (list_of 64 (kea_pool known) (get (codes "pools") d)) parts_of_all pools.first pools.is in
    let parts = parts_sound whole.first pools.first whole.gives (each_meant IsWide (kea_pool known) (pool_sound known) 64 (get (codes "pools") d) whole.first whole.is) in
    let kinds = within.first.kinds in
    let bare = within.first.bare in
    let reservations = came_from (list_of 4096 (kea_reservation known kinds bare) (get (codes "reservations") d)) _ subnet pools.gives in
    let beside = passed (stand_beside within.first.outside pools.first reservations.first) _ subnet reservations.gives in
    let options = came_from (kea_options false known (get (codes "option-data") d)) _ subnet beside.1 in
    let value = came_from (get (codes "subnet") d) subnet_prefix prefix.first prefix.is in
    subst IsSubnet (some_is _ subnet options.gives) (record {
      prefix = prefix_in_sound value.first prefix.first value.gives;
      few_relays = relays_few (get (codes "relay") d) relays.first relays.is;
      few_pools = parts.0;
      pools = parts.1;
      few_reservations = few_meant 4096 (kea_reservation known kinds bare) (get (codes "reservations") d) reservations.first reservations.is;
      reservations = each_meant IsReservation (kea_reservation known kinds bare) (reservation_sound known kinds bare) 4096 (get (codes "reservations") d) reservations.first reservations.is;
      options = options_sound known (get (codes "option-data") d) options.first options.is;
      shared = record { few = omega arith; each = tt; own = tt };
      boot = sound.boot;
      term = term_sound within.first sound.keys;
    })
