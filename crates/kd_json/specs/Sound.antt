-- What settings obey, from whatever text they come: each value is in its range, and each list is
-- within its limit. The rules over the whole are apart.
use Rattle.std.specs.Prelude.{◌≤◌, IfSome, length}
use Rattle.std.specs.List.{AllByRecursion}
use Rattle.kd_config.specs.Sound.{AreOptions, AreTimes, IsBoot, IsFrom, IsLifetime, IsSubnet}
use Rattle.kd_json.specs.declared.objects.class.ClassEntry.{ClassEntry}
use Rattle.kd_json.specs.declared.objects.settings.Settings.{Settings}

-- a class as a text gives it
pub record IsEntry (entry : ClassEntry) : Type 0 where
  pub name : IsFrom 1 255 (length entry.name)
  pub options : AreOptions entry.options
  pub boot : IsBoot entry.boot
  pub lifetime : IfSome entry.lifetime IsLifetime

-- settings
pub record AreSettings (s : Settings) : Type 0 where
  pub server : 1 ≤ s.server
  pub times : AreTimes s.times
  pub options : AreOptions s.options
  pub classes : AllByRecursion IsEntry s.classes
  pub few : length s.subnets ≤ 256
  pub subnets : AllByRecursion IsSubnet s.subnets
