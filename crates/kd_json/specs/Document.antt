-- The settings that the text of a configuration describes.
use Rattle.std.specs.Prelude.{ℕ, List, Option, Some}
use Rattle.kd_config.specs.Rules.{may_stand}
use Rattle.kd_json.specs.Settings.{whole_settings}
use Rattle.kd_wire.specs.Steps.{◌>>=◌}
use Rattle.kd_fields.specs.Steps.{must}
use Rattle.kd_fields.specs.Text.{value_spelled}
use Rattle.kd_json.specs.declared.objects.settings.Settings.{Settings}

-- the settings that a text describes
unfoldable pub settings_spelled : List ℕ → Option Settings
settings_spelled text = value_spelled text >>= whole_settings

-- settings, if there are any and their subnets obey the rules together
unfoldable pub accepted : Option Settings → Option Settings
accepted spelled = do
  settings ← spelled
  _ ← must (may_stand settings.subnets)
  Some settings

-- the settings that a text describes, if they are accepted
abbrev pub accepted_settings : List ℕ → Option Settings
accepted_settings text = accepted (settings_spelled text)
