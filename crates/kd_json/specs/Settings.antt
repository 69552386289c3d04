-- The object `Dhcp4` and the root of a configuration.
use Rattle.std.specs.Prelude.{ℕ, ◌*◌, ◌/◌, Bool, not, ◌&&◌, ◌==◌, nat_le, List, [], ◌∷◌, codes, Option, Some}
use Rattle.serde_json.specs.Data.{Data}
use Rattle.serde_json.specs.Find.{get}
use Rattle.kd_config.specs.Configuration.{no_extensions}
use Rattle.kd_config.specs.Sound.{longest_lease}
use Rattle.kd_json.specs.Class.{class_of}
use Rattle.kd_fields.specs.Lists.{list_of}
use Rattle.kd_json.specs.Options.{option_list_in}
use Rattle.kd_wire.specs.Steps.{◌>>=◌}
use Rattle.kd_fields.specs.Steps.{must, only_if}
use Rattle.kd_json.specs.Subnet.{subnet_of}
use Rattle.kd_fields.specs.Values.{address_given, has_keys, number_if_given}
use Rattle.kd_json.specs.declared.objects.settings.Settings.{Settings}
use Rattle.kd_config.specs.declared.times.Times.{Times}

-- the keys of `Dhcp4`
abbrev pub dhcp4_keys : List (List ℕ)
dhcp4_keys =
    codes "server-address" ∷ codes "valid-lifetime" ∷ codes "renew-timer" ∷ codes "rebind-timer"
    ∷ codes "offer-hold" ∷ codes "decline-hold"
    ∷ codes "option-data" ∷ codes "client-classes" ∷ codes "subnet4" ∷ []

-- a value is an object with the keys of `Dhcp4`
unfoldable pub has_dhcp4_keys : Data → Bool
has_dhcp4_keys d = has_keys dhcp4_keys (codes "server-address" ∷ []) d

-- a value is an object with `Dhcp4` and no other key
unfoldable pub has_root_keys : Data → Bool
has_root_keys d = has_keys (codes "Dhcp4" ∷ []) (codes "Dhcp4" ∷ []) d

-- the address of the server, which is not 0.0.0.0
unfoldable pub server_given : Data → Option ℕ
server_given d = do
  address ← address_given d
  only_if (not (address == 0)) address

-- the lease and offer times: T1 is at most T2, and T2 at most the lifetime
unfoldable pub times_given : Data → Option Times
times_given d = do
  lifetime ← number_if_given 1 longest_lease 7200 (get (codes "valid-lifetime") d)
  renew ← number_if_given 0 longest_lease (lifetime / 2) (get (codes "renew-timer") d)
  rebind ← number_if_given 0 longest_lease (lifetime * 7 / 8) (get (codes "rebind-timer") d)
  _ ← must (nat_le renew rebind && nat_le rebind lifetime)
  offer_hold ← number_if_given 1 86400 60 (get (codes "offer-hold") d)
  decline_hold ← number_if_given 1 31536000 86400 (get (codes "decline-hold") d)
  Some (record { lifetime = lifetime; renew = renew; rebind = rebind; offer_hold = offer_hold; decline_hold = decline_hold })

-- the settings of a server and times with the lists in the value of `Dhcp4`
unfoldable pub settings_with : ℕ → Times → Data → Option Settings
settings_with server times d = do
  options ← option_list_in (get (codes "option-data") d)
  classes ← list_of 256 class_of (get (codes "client-classes") d)
  subnets ← list_of 256 subnet_of (get (codes "subnet4") d)
  Some (record { server = server; times = times; extensions = no_extensions; options = options; classes = classes; subnets = subnets })

-- the settings that the value of `Dhcp4` describes
unfoldable pub dhcp4_settings : Data → Option Settings
dhcp4_settings d = do
  _ ← must (has_dhcp4_keys d)
  server ← get (codes "server-address") d >>= server_given
  times ← times_given d
  settings_with server times d

-- the settings that the value of a whole text describes
unfoldable pub whole_settings : Data → Option Settings
whole_settings d = do
  _ ← must (has_root_keys d)
  get (codes "Dhcp4") d >>= dhcp4_settings
