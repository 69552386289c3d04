-- The object `Dhcp4` and the root of a configuration of Kea's.
use Rattle.std.specs.Prelude.{ℕ, Bool, true, false, ◌&&◌, List, codes, Option, Some, None, is_some}
use Rattle.serde_json.specs.Data.{Data}
use Rattle.serde_json.specs.Find.{as_object, get}
use Rattle.kd_classes.specs.declared.option_list.OptionData.{OptionData}
use Rattle.kd_config.specs.Configuration.{kea_extensions}
use Rattle.kd_fields.specs.Lists.{list_of}
use Rattle.kd_fields.specs.Steps.{must}
use Rattle.kd_json.specs.declared.objects.settings.Settings.{Settings}
use Rattle.kd_keys.specs.Boot.{kea_boot}
use Rattle.kd_kea.specs.Class.{kea_class}
use Rattle.kd_kea.specs.Known.{are_of_clients, classes_with}
use Rattle.kd_keys.specs.Definitions.{kea_known}
use Rattle.kd_keys.specs.HostKinds.{finds_reservations, kinds_given, order_given}
use Rattle.kd_keys.specs.HostName.{server_has_bare_names}
use Rattle.kd_keys.specs.Hooks.{hooks_are_quiet}
use Rattle.kd_keys.specs.Keys.{Plain, flag, keys_are_read, no_list}
use Rattle.kd_kea.specs.Lifetimes.{has_class_lifetime, kea_keys, usual_keys}
use Rattle.kd_kea.specs.Network.{kea_subnets}
use Rattle.kd_keys.specs.Options.{kea_options, sent_to_all, server_address}
use Rattle.kd_keys.specs.Policy.{kea_policy}
use Rattle.kd_keys.specs.Tables.{root_keys, server_keys}
use Rattle.kd_kea.specs.Times.{kea_times}
use Rattle.kd_keys.specs.Values.{flag_given, is_plain_if_given}
use Rattle.kd_keys.specs.declared.definition.DefinedOption.{DefinedOption}
use Rattle.kd_kea.specs.declared.objects.subnet.Above.{Above}
use Rattle.kd_wire.specs.Steps.{◌>>=◌}

-- an object, if it is given, turns nothing on: one key of it is absent, or has this value
abbrev pub turns_nothing_on : List ℕ → Plain → Option Data → Bool
turns_nothing_on key plain None = true
turns_nothing_on key plain (Some d) =
    is_some (as_object d) && is_plain_if_given plain (get key d)

-- a value has the keys of `Dhcp4`: no names are updated, nothing of the configuration is in a
-- database, and no hook changes anything for clients
unfoldable pub has_server_form : Data → Option (Unit {0})
has_server_form d = do
  _ ← must (keys_are_read server_keys d)
  _ ← must (turns_nothing_on (codes "enable-updates") (flag false) (get (codes "dhcp-ddns") d))
  _ ← must (turns_nothing_on (codes "config-databases") no_list (get (codes "config-control") d))
  _ ← must (finds_reservations (get (codes "host-reservation-identifiers") d))
  must (hooks_are_quiet (get (codes "hooks-libraries") d))

-- the settings of options and what holds for the whole server, with the lists in the value of
-- `Dhcp4`, by these definitions of options
unfoldable pub kea_settings_with : List DefinedOption → List OptionData → Above → Data → Option Settings
kea_settings_with known options above d = do
  classes ← list_of 256 (kea_class known) (get (codes "client-classes") d)
  subnets ← kea_subnets above known d
  Some (record { server = above.server; times = above.times; extensions = kea_extensions above.policy (are_of_clients classes subnets) (order_given (get (codes "host-reservation-identifiers") d)); options = sent_to_all options; classes = classes_with (are_of_clients classes subnets) classes; subnets = subnets })

-- the settings that the value of `Dhcp4` describes, for a server with this address if no option
-- has another
unfoldable pub kea_dhcp4 : Option ℕ → Data → Option Settings
kea_dhcp4 server d = do
  _ ← has_server_form d
  keys ← kea_keys usual_keys d
  times ← kea_times keys d
  outside ← flag_given (get (codes "reservations-out-of-pool") d)
  policy ← kea_policy d
  boot ← kea_boot d
  known ← kea_known (get (codes "option-def") d)
  options ← kea_options true known (get (codes "option-data") d)
  address ← server_address options server
  kea_settings_with known options (record { server = address; times = times; keys = keys; by_class = has_class_lifetime d; outside = outside; kinds = kinds_given (get (codes "host-reservation-identifiers") d); bare = server_has_bare_names d; policy = policy; boot = boot }) d

-- the settings that the value of a whole text describes
unfoldable pub kea_root : Option ℕ → Data → Option Settings
kea_root server d = do
  _ ← must (keys_are_read root_keys d)
  get (codes "Dhcp4") d >>= kea_dhcp4 server
