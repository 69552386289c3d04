-- What a text of Kea's describes obeys what all settings obey, object by object.
use Rattle.std.proofs.Common.{◌≡◌, ℕ, Bool, true, false, not, List, ◌++◌, length, codes, Option, Some, ap, ◌∙◌, subst, arith}
use Rattle.std.specs.Prelude.{option_and_then}
use Rattle.std.specs.List.{AllByRecursion}
use Rattle.kd_config.proofs.Tests.{some_is}
use Rattle.kd_classes.specs.declared.option_list.OptionData.{OptionData}
use Rattle.kd_config.specs.Sound.{AreOptions, IsFrom}
use Rattle.kd_json.proofs.Came.{came_from, each_meant, passed, passed_only}
use Rattle.kd_json.proofs.SoundSettings.{name_sound}
use Rattle.kd_fields.specs.Values.{class_name_in}
use Rattle.kd_fields.specs.Text.{value_spelled}
use Rattle.kd_fields.specs.Lists.{list_of}
use Rattle.kd_json.specs.Sound.{AreSettings, IsEntry}
use Rattle.kd_fields.specs.Values.{text_if_given}
use Rattle.kd_json.specs.declared.objects.class.ClassEntry.{ClassEntry}
use Rattle.kd_json.specs.declared.objects.settings.Settings.{Settings}
use Rattle.kd_kea.proofs.SoundBoot.{boot_sound, own_sound}
use Rattle.kd_kea.proofs.SoundLifetimes.{class_lifetime_sound, keys_sound, usual_keys_sound}
use Rattle.kd_kea.proofs.SoundNetworks.{subnets_sound}
use Rattle.kd_kea.proofs.Sounds.{all_sound, options_sound, server_sound, times_sound}
use Rattle.kd_keys.specs.Boot.{kea_boot, own_boot}
use Rattle.kd_kea.specs.Class.{kea_class_options, kea_class, own_class_name}
use Rattle.kd_kea.specs.Known.{are_of_clients, classes_with, untested}
use Rattle.kd_keys.specs.ClassNames.{is_of_clients}
use Rattle.kd_keys.specs.Definitions.{kea_definitions, kea_known}
use Rattle.kd_keys.specs.HostKinds.{kinds_given}
use Rattle.kd_keys.specs.HostName.{server_has_bare_names}
use Rattle.kd_kea.specs.Kea.{kea_settings}
use Rattle.kd_keys.specs.Keys.{keys_are_read}
use Rattle.kd_kea.specs.Lifetimes.{own_lifetime, has_class_lifetime, kea_keys, usual_keys}
use Rattle.kd_kea.specs.Network.{kea_subnets}
use Rattle.kd_keys.specs.Options.{kea_options, server_address}
use Rattle.kd_plain.specs.Plain.{plain}
use Rattle.kd_keys.specs.Policy.{kea_policy}
use Rattle.kd_kea.specs.Settings.{has_server_form, kea_dhcp4, kea_root, kea_settings_with}
use Rattle.kd_keys.specs.Tables.{class_keys, root_keys}
use Rattle.kd_kea.specs.Times.{kea_times}
use Rattle.kd_keys.specs.Values.{flag_given}
use Rattle.kd_keys.specs.declared.definition.DefinedOption.{DefinedOption}
use Rattle.kd_kea.specs.declared.objects.subnet.Above.{Above}
use Rattle.kd_wire.specs.Steps.{◌>>=◌}
use Rattle.serde_json.specs.Data.{Data}
use Rattle.serde_json.specs.Find.{get}

class_options_sound : (known : List DefinedOption) (d : Data) (options : List OptionData) → kea_class_options known d ≡ Some options → AreOptions options
unfolding kea_class_options
class_options_sound known d options e =
    let own = came_from (kea_definitions true (get (codes "option-def") d)) _ options e in
    options_sound (own.first ++ known) (get (codes "option-data") d) options own.gives

named : (d : Data) (name : List ℕ) → own_class_name d ≡ Some name → class_name_in d ≡ Some name
unfolding own_class_name
named d name e =
    let given = came_from (class_name_in d) _ name e in
    let own = passed_only (not (is_of_clients given.first)) given.first name given.gives in
    given.is ∙ ap Some own.1

entry_sound : (known : List DefinedOption) (d : Data) (entry : ClassEntry) → kea_class known d ≡ Some entry → IsEntry entry
unfolding kea_class
entry_sound known d entry e =
    let keys = passed (keys_are_read class_keys d) _ entry e in
    let name = came_from (option_and_then own_class_name (get (codes "name") d)) _ entry keys.1 in
    let text = came_from (text_if_given (get (codes "test") d)) _ entry name.gives in
    let options = came_from (kea_class_options known d) _ entry text.gives in
    let boot = came_from (own_boot d) _ entry options.gives in
    let lifetime = came_from (own_lifetime d) _ entry boot.gives in
    let value = came_from (get (codes "name") d) own_class_name name.first name.is in
    subst IsEntry (some_is _ entry lifetime.gives) (record {
      name = name_sound value.first name.first (named value.first name.first value.gives);
      options = class_options_sound known d options.first options.is;
      boot = own_sound d boot.first boot.is;
      lifetime = class_lifetime_sound d lifetime.first lifetime.is;
    })

untested_sound : (name : List ℕ) → IsFrom 1 255 (length name) → IsEntry (untested name)
untested_sound name named =
    record {
      name = named;
      options = record { few = omega arith; each = tt; own = tt };
      boot = record { next_server = tt; server_name = tt; file_name = tt };
      lifetime = tt;
    }

with_sound : (knows : Bool) (classes : List ClassEntry) → AllByRecursion IsEntry classes → AllByRecursion IsEntry (classes_with knows classes)
with_sound false classes each = each
with_sound true classes each = (
  untested_sound (codes "KNOWN") (record { above = omega arith; below = omega arith }),
  (untested_sound (codes "UNKNOWN") (record { above = omega arith; below = omega arith }), each),
)

dhcp4_sound : (server : Option ℕ) (d : Data) (s : Settings) → kea_dhcp4 server d ≡ Some s → AreSettings s
unfolding kea_dhcp4 kea_settings_with
dhcp4_sound server d s e =
    let form = came_from (has_server_form d) _ s e in
    let keys = came_from (kea_keys usual_keys d) _ s form.gives in
    let times = came_from (kea_times keys.first d) _ s keys.gives in
    let outside = came_from (flag_given (get (codes "reservations-out-of-pool") d)) _ s times.gives in
    let policy = came_from (kea_policy d) _ s outside.gives in
    let boot = came_from (kea_boot d) _ s policy.gives in
    let known = came_from (kea_known (get (codes "option-def") d)) _ s boot.gives in
    let options = came_from (kea_options true known.first (get (codes "option-data") d)) _ s known.gives in
    let address = came_from (server_address options.first server) _ s options.gives in
    let above : Above = record { server = address.first; times = times.first; keys = keys.first; by_class = has_class_lifetime d; outside = outside.first; kinds = kinds_given (get (codes "host-reservation-identifiers") d); bare = server_has_bare_names d; policy = policy.first; boot = boot.first } in
    let classes = came_from (list_of 256 (kea_class known.first) (get (codes "client-classes") d)) _ s address.gives in
    let subnets = came_from (kea_subnets above known.first d) _ s classes.gives in
    let numbers = keys_sound usual_keys usual_keys_sound d keys.first keys.is in
    let sound = subnets_sound above (record { boot = boot_sound d boot.first boot.is; keys = numbers }) known.first d subnets.first subnets.is in
    subst AreSettings (some_is _ s subnets.gives) (record {
      server = server_sound options.first server address.first address.is;
      times = times_sound keys.first numbers.usual d times.first times.is;
      options = all_sound known.first (get (codes "option-data") d) options.first options.is;
      classes = with_sound (are_of_clients classes.first subnets.first) classes.first
          (each_meant IsEntry (kea_class known.first) (entry_sound known.first) 256 (get (codes "client-classes") d) classes.first classes.is);
      few = sound.0;
      subnets = sound.1;
    })

root_sound : (server : Option ℕ) (d : Data) (s : Settings) → kea_root server d ≡ Some s → AreSettings s
unfolding kea_root
root_sound server d s e =
    let keys = passed (keys_are_read root_keys d) _ s e in
    let dhcp4 = came_from (get (codes "Dhcp4") d) (kea_dhcp4 server) s keys.1 in
    dhcp4_sound server dhcp4.first s dhcp4.gives

pub kea_sound : (text : List ℕ) (server : Option ℕ) (s : Settings) → kea_settings text server ≡ Some s → AreSettings s
unfolding kea_settings
kea_sound text server s e =
    let value = came_from (plain text >>= value_spelled) (kea_root server) s e in
    root_sound server value.first s value.gives
