-- What a text describes obeys what every configuration obeys, object by object.
use Rattle.std.proofs.Common.{◌≡◌, ℕ, zero, suc, ◌-◌, ◌≤◌, nat_lt, true, not, ◌&&◌, nat_le, ◌==◌, List, [], ◌∷◌, length, codes, Option, Some, None, refl, subst, sym, arith}
use Rattle.std.specs.List.{AllByRecursion}
use Rattle.std.specs.Prelude.{IfSome, option_and_then, option_map}
use borrow.Author.Tests.{leb-true, ltb-true}
use Rattle.kd_classes.specs.Boot.{no_boot}
use Rattle.kd_classes.specs.HeldSet.{IsAccepted}
use Rattle.kd_classes.specs.Order.{AreInOrder}
use Rattle.kd_classes.specs.declared.definition.ClassDef.{ClassDef}
use Rattle.kd_classes.specs.declared.lifetime.Lifetime.{Lifetime}
use Rattle.kd_config.proofs.Tests.{some_is, both_passed}
use Rattle.kd_json.proofs.Came.{came_from, passed, passed_only, few_meant, each_meant}
use Rattle.kd_json.proofs.Sounds.{bytes_sound, options_sound, prefix_sound, spelled_rise, times_sound}
use Rattle.kd_json.specs.Address.{addresses_spelled, prefix_spelled}
use Rattle.kd_json.specs.Class.{class_of, has_class_keys, test_source_in}
use Rattle.kd_fields.specs.Values.{class_name_in}
use Rattle.kd_json.specs.Configured.{AreDefinitions}
use Rattle.kd_json.specs.Document.{accepted, accepted_settings, settings_spelled}
use Rattle.kd_fields.specs.Text.{value_spelled}
use Rattle.kd_fields.specs.Lists.{list_of}
use Rattle.kd_json.specs.Options.{option_list_in}
use Rattle.kd_json.specs.Sound.{AreSettings, IsEntry}
use Rattle.kd_json.specs.Pool.{has_pool_keys, pool_addresses, pool_of, pool_range}
use Rattle.kd_json.specs.Reservation.{has_reservation_keys, identity_given, one_identity, reservation_of}
use Rattle.kd_config.specs.Rules.{may_stand}
use Rattle.kd_json.specs.Settings.{has_dhcp4_keys, has_root_keys, whole_settings, server_given, dhcp4_settings, settings_with, times_given}
use Rattle.kd_config.specs.Sound.{AreOptions, IsBoot, IsClass, IsFrom, IsIdentity, IsLifetime, IsPool, IsPrefix, IsRange, IsReservation, IsSound, IsSubnet}
use Rattle.kd_json.specs.Subnet.{has_subnet_keys, subnet_prefix, subnet_of, subnet_with}
use Rattle.kd_fields.specs.Values.{address_given, hex_bytes_in, bytes_if_given, number_if_given, text_if_given}
use Rattle.kd_json.specs.declared.objects.class.ClassEntry.{ClassEntry}
use Rattle.kd_config.specs.declared.pool.Pool.{Pool}
use Rattle.kd_config.specs.declared.prefix.Prefix.{Prefix}
use Rattle.kd_config.specs.declared.range.Range.{Range}
use Rattle.kd_config.specs.declared.reservation.Identity.{Identity}
use Rattle.kd_config.specs.declared.reservation.Identity.TheVariants.{Hardware, ClientId}
use Rattle.kd_config.specs.declared.reservation.Reservation.{Reservation}
use Rattle.kd_json.specs.declared.objects.settings.Settings.{Settings}
use Rattle.kd_config.specs.declared.subnet.Subnet.{Subnet}
use Rattle.kd_json.specs.declared.token_file.TokenFile.{TokenFile}
use Rattle.serde_json.specs.Data.{Data}
use Rattle.serde_json.specs.Find.{as_str, get}

pub addresses_in_rise : (d : Data) (range : Range) → pool_addresses d ≡ Some range → range.first ≤ range.last
unfolding pool_addresses
addresses_in_rise d range e = let text = came_from (as_str d) addresses_spelled range e in spelled_rise text.first range text.gives

pub range_in_sound : (d : Data) (range : Range) → pool_range d ≡ Some range → IsRange range
unfolding pool_range
range_in_sound d range e =
    let found = came_from (pool_addresses d) _ range e in
    let test = passed_only (nat_lt (found.first.last - found.first.first) 65536) found.first range found.gives in
    subst IsRange test.1 (record { some = addresses_in_rise d found.first found.is; few = ltb-true (found.first.last - found.first.first) 65536 test.0 })

pool_sound : (d : Data) (pool : Pool) → pool_of d ≡ Some pool → IsPool pool
unfolding pool_of
pool_sound d pool e =
    let keys = passed (has_pool_keys d) _ pool e in
    let range = came_from (option_and_then pool_range (get (codes "pool") d)) _ pool keys.1 in
    let options = came_from (option_list_in (get (codes "option-data") d)) _ pool range.gives in
    let value = came_from (get (codes "pool") d) pool_range range.first range.is in
    subst IsPool (some_is _ pool options.gives) (record {
      range = range_in_sound value.first range.first value.gives;
      options = options_sound (get (codes "option-data") d) options.first options.is;
    })

-- bytes that are present
meant_bytes : (most : ℕ) (value : Option Data) (bytes : List ℕ) → bytes_if_given 1 most value ≡ Some (Some bytes) → IsFrom 1 most (length bytes)
meant_bytes most None bytes e = absurd (cc)
meant_bytes most (Some d) bytes e = by (hex_bytes_in 1 most d) refl e where
  by : (read : Option (List ℕ)) → hex_bytes_in 1 most d ≡ read → option_map Some read ≡ Some (Some bytes) → IsFrom 1 most (length bytes)
  by None h k = absurd (cc)
  by (Some bs) h k = subst (λ b. IsFrom 1 most (length b)) (inner bs bytes k) (bytes_sound 1 most d bs h) where
    inner : (x y : List ℕ) → Some (Some x) ≡ Some (Some y) → x ≡ y
    inner x y same = cc

identity_sound : (hardware client : Option (List ℕ)) (identity : Identity) → ((b : List ℕ) → hardware ≡ Some b → IsFrom 1 16 (length b)) → ((b : List ℕ) → client ≡ Some b → IsFrom 1 255 (length b)) → one_identity hardware client ≡ Some identity → IsIdentity identity
identity_sound (Some h) None identity f g e = subst IsIdentity (some_is (Hardware h) identity e) (f h refl)
identity_sound None (Some c) identity f g e = subst IsIdentity (some_is (ClientId c) identity e) (g c refl)
identity_sound None None identity f g e = absurd (cc)
identity_sound (Some h) (Some c) identity f g e = absurd (cc)

pub given_sound : (d : Data) (identity : Identity) → identity_given d ≡ Some identity → IsIdentity identity
unfolding identity_given
given_sound d identity e =
    let hardware = came_from (bytes_if_given 1 16 (get (codes "hw-address") d)) _ identity e in
    let client = came_from (bytes_if_given 1 255 (get (codes "client-id") d)) _ identity hardware.gives in
    identity_sound hardware.first client.first identity
    (λ b h. meant_bytes 16 (get (codes "hw-address") d) b (subst (λ o. bytes_if_given 1 16 (get (codes "hw-address") d) ≡ Some o) h hardware.is))
    (λ b h. meant_bytes 255 (get (codes "client-id") d) b (subst (λ o. bytes_if_given 1 255 (get (codes "client-id") d) ≡ Some o) h client.is))
    client.gives

-- no options are options
no_options : AreOptions []
no_options = record { few = omega arith; each = tt; own = tt }

-- nothing for booting
no_boot_sound : IsBoot no_boot
no_boot_sound = record { next_server = tt; server_name = tt; file_name = tt }

reservation_sound : (d : Data) (reservation : Reservation) → reservation_of d ≡ Some reservation → IsReservation reservation
unfolding reservation_of
reservation_sound d reservation e =
    let keys = passed (has_reservation_keys d) _ reservation e in
    let identity = came_from (identity_given d) _ reservation keys.1 in
    let address = came_from (option_and_then address_given (get (codes "ip-address") d)) _ reservation identity.gives in
    subst IsReservation (some_is _ reservation address.gives) (record {
      identity = given_sound d identity.first identity.is;
      options = no_options;
      boots = tt;
    })

pub prefix_in_sound : (d : Data) (prefix : Prefix) → subnet_prefix d ≡ Some prefix → IsPrefix prefix
unfolding subnet_prefix
prefix_in_sound d prefix e = let text = came_from (as_str d) prefix_spelled prefix e in prefix_sound text.first prefix text.gives

subnet_sound : (d : Data) (subnet : Subnet) → subnet_of d ≡ Some subnet → IsSubnet subnet
unfolding subnet_of subnet_with
subnet_sound d subnet e =
    let keys = passed (has_subnet_keys d) _ subnet e in
    let id = came_from (number_if_given 1 4294967294 1 (get (codes "id") d)) _ subnet keys.1 in
    let prefix = came_from (option_and_then subnet_prefix (get (codes "subnet") d)) _ subnet id.gives in
    let class = came_from (text_if_given (get (codes "client-class") d)) _ subnet prefix.gives in
    let pools = came_from (list_of 64 pool_of (get (codes "pools") d)) _ subnet class.gives in
    let reservations = came_from (list_of 4096 reservation_of (get (codes "reservations") d)) _ subnet pools.gives in
    let options = came_from (option_list_in (get (codes "option-data") d)) _ subnet reservations.gives in
    let value = came_from (get (codes "subnet") d) subnet_prefix prefix.first prefix.is in
    subst IsSubnet (some_is _ subnet options.gives) (record {
      prefix = prefix_in_sound value.first prefix.first value.gives;
      few_relays = omega arith;
      few_pools = few_meant 64 pool_of (get (codes "pools") d) pools.first pools.is;
      pools = each_meant IsPool pool_of pool_sound 64 (get (codes "pools") d) pools.first pools.is;
      few_reservations = few_meant 4096 reservation_of (get (codes "reservations") d) reservations.first reservations.is;
      reservations = each_meant IsReservation reservation_of reservation_sound 4096 (get (codes "reservations") d) reservations.first reservations.is;
      options = options_sound (get (codes "option-data") d) options.first options.is;
      shared = no_options;
      boot = no_boot_sound;
      term = tt;
    })

pub name_sound : (d : Data) (name : List ℕ) → class_name_in d ≡ Some name → IsFrom 1 255 (length name)
unfolding class_name_in
name_sound d name e =
    let text = came_from (as_str d) _ name e in
    let test = passed_only (nat_le 1 (length text.first) && nat_le (length text.first) 255) text.first name text.gives in
    let both = both_passed (nat_le 1 (length text.first)) (nat_le (length text.first) 255) test.0 in
    subst (λ n. IsFrom 1 255 (length n)) test.1 (record { above = leb-true 1 (length text.first) both.0; below = leb-true (length text.first) 255 both.1 })

entry_sound : (d : Data) (entry : ClassEntry) → class_of d ≡ Some entry → IsEntry entry
unfolding class_of
entry_sound d entry e =
    let keys = passed (has_class_keys d) _ entry e in
    let name = came_from (option_and_then class_name_in (get (codes "name") d)) _ entry keys.1 in
    let source = came_from (test_source_in d) _ entry name.gives in
    let options = came_from (option_list_in (get (codes "option-data") d)) _ entry source.gives in
    let value = came_from (get (codes "name") d) class_name_in name.first name.is in
    subst IsEntry (some_is _ entry options.gives) (record {
      name = name_sound value.first name.first value.gives;
      options = options_sound (get (codes "option-data") d) options.first options.is;
      boot = no_boot_sound;
      lifetime = tt;
    })

pub some_server : (n : ℕ) → not (n == 0) ≡ true → 1 ≤ n
some_server zero e = absurd (cc)
some_server (suc n) e = omega arith

server_sound : (d : Data) (server : ℕ) → server_given d ≡ Some server → 1 ≤ server
unfolding server_given
server_sound d server e =
    let address = came_from (address_given d) _ server e in
    let test = passed_only (not (address.first == 0)) address.first server address.gives in
    subst (λ n. 1 ≤ n) test.1 (some_server address.first test.0)

settings_sound : (d : Data) (s : Settings) → dhcp4_settings d ≡ Some s → AreSettings s
unfolding dhcp4_settings settings_with
settings_sound d s e =
    let keys = passed (has_dhcp4_keys d) _ s e in
    let server = came_from (option_and_then server_given (get (codes "server-address") d)) _ s keys.1 in
    let times = came_from (times_given d) _ s server.gives in
    let options = came_from (option_list_in (get (codes "option-data") d)) _ s times.gives in
    let classes = came_from (list_of 256 class_of (get (codes "client-classes") d)) _ s options.gives in
    let subnets = came_from (list_of 256 subnet_of (get (codes "subnet4") d)) _ s classes.gives in
    let value = came_from (get (codes "server-address") d) server_given server.first server.is in
    subst AreSettings (some_is _ s subnets.gives) (record {
      server = server_sound value.first server.first value.gives;
      times = times_sound d times.first times.is;
      options = options_sound (get (codes "option-data") d) options.first options.is;
      classes = each_meant IsEntry class_of entry_sound 256 (get (codes "client-classes") d) classes.first classes.is;
      few = few_meant 256 subnet_of (get (codes "subnet4") d) subnets.first subnets.is;
      subnets = each_meant IsSubnet subnet_of subnet_sound 256 (get (codes "subnet4") d) subnets.first subnets.is;
    })

root_sound : (d : Data) (s : Settings) → whole_settings d ≡ Some s → AreSettings s
unfolding whole_settings
root_sound d s e =
    let keys = passed (has_root_keys d) _ s e in
    let dhcp4 = came_from (get (codes "Dhcp4") d) dhcp4_settings s keys.1 in
    settings_sound dhcp4.first s dhcp4.gives

written_sound : (text : List ℕ) (s : Settings) → settings_spelled text ≡ Some s → AreSettings s
unfolding settings_spelled
written_sound text s e = let value = came_from (value_spelled text) whole_settings s e in root_sound value.first s value.gives

-- the definitions of classes as the text gives them
classes_sound : (files : List TokenFile) (entries : List ClassEntry) (defs : List ClassDef) → AllByRecursion IsEntry entries
    → AreDefinitions files entries defs → AllByRecursion IsAccepted defs → AllByRecursion IsClass defs
classes_sound files [] [] h k accepted = tt
classes_sound files [] (def ∷ defs) h k accepted = absurd k
classes_sound files (entry ∷ entries) [] h k accepted = absurd k
classes_sound files (entry ∷ entries) (def ∷ defs) h k accepted = (
  record {
    name = subst (λ name. IsFrom 1 255 (length name)) (sym k.0.name) h.0.name;
    test = accepted.0;
    options = subst AreOptions (sym k.0.options) h.0.options;
    boot = subst IsBoot (sym k.0.boot) h.0.boot;
    lifetime = subst (λ (lifetime : Option Lifetime). IfSome lifetime IsLifetime) (sym k.0.lifetime) h.0.lifetime;
  },
  classes_sound files entries defs h.1 k.1 accepted.1,
)

-- settings that are accepted obey the rules, and what all that are spelled obey
pub accepted_sound : (spelled : Option Settings) (s : Settings)
    → ((x : Settings) → spelled ≡ Some x → AreSettings x) → accepted spelled ≡ Some s
    → AreSettings s × (may_stand s.subnets ≡ true)
unfolding accepted
accepted_sound spelled s each e =
    let written = came_from spelled _ s e in
    let stand = passed (may_stand written.first.subnets) _ s written.gives in
    let same = some_is written.first s stand.1 in (
      subst AreSettings same (each written.first written.is),
      subst (λ (x : Settings). may_stand x.subnets ≡ true) same stand.0,
    )

-- the same of the settings of a text
pub text_sound : (text : List ℕ) (s : Settings) → accepted_settings text ≡ Some s
    → AreSettings s × (may_stand s.subnets ≡ true)
text_sound text s e = accepted_sound (settings_spelled text) s (written_sound text) e

-- the configuration of settings and of definitions of their classes
pub sound : (files : List TokenFile) (s : Settings) (defs : List ClassDef) → AreSettings s
    → may_stand s.subnets ≡ true → AreDefinitions files s.classes defs → AreInOrder defs
    → AllByRecursion IsAccepted defs
    → IsSound (record { server = s.server; times = s.times; extensions = s.extensions; options = s.options; classes = defs; subnets = s.subnets })
sound files s defs known stand h order accepted = record {
  server = known.server;
  times = known.times;
  options = known.options;
  classes = record { each = classes_sound files s.classes defs known.classes h accepted; ordered = order };
  subnets = record { few = known.few; each = known.subnets; together = stand };
}
