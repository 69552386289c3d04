-- The configuration that a text of ISC Kea's DHCPv4 server describes (ISC Kea Administrator
-- Reference Manual, DHCPv4 Server): the settings of the same values, for a server whose address is
-- that of a global option 54, or else given beside the text.
use Rattle.std.specs.Prelude.{◌≡◌, ℕ, List, [], Option, Some}
use Rattle.kd_config.specs.Configuration.{Configuration}
use Rattle.kd_json.specs.Configured.{IsConfigOf}
use Rattle.kd_json.specs.Document.{accepted}
use Rattle.kd_fields.specs.Text.{value_spelled}
use Rattle.kd_json.specs.FirstFault.{IsFaultOfSettings}
use Rattle.kd_json.specs.declared.fault.ConfigFault.{ConfigFault}
use Rattle.kd_json.specs.declared.objects.settings.Settings.{Settings}
use Rattle.kd_plain.specs.Plain.{plain}
use Rattle.kd_kea.specs.Settings.{kea_root}
use Rattle.kd_wire.specs.Steps.{◌>>=◌}

-- the settings that a text of Kea's describes, for a server with this address if no option has
-- another
unfoldable pub kea_settings : List ℕ → Option ℕ → Option Settings
kea_settings text server = plain text >>= value_spelled >>= kea_root server

-- the configuration that a text of Kea's describes
pub record IsKea (text : List ℕ) (server : Option ℕ) (c : Configuration) : Type 0 where
  pub settings : Settings
  pub written : accepted (kea_settings text server) ≡ Some settings
  pub made : IsConfigOf settings [] c

-- this is the first fault of a text of Kea's
abbrev pub IsFaultOfKea : List ℕ → Option ℕ → ConfigFault → Type 0
IsFaultOfKea text server fault = IsFaultOfSettings (kea_settings text server) fault
