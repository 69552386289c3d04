-- Helpers of private contracts: clients as borrowed bytes, subnets whose pools are apart up to a
-- number, and the faults of parts of a configuration.
use Rattle.std.specs.Prelude.{ℕ, Bool, ◌&&◌, List, length, nat_le}
use Rattle.std.specs.List.{list_all}
use Rattle.kd_config.specs.Rules.{all_obey, lies_within, obeys, pool_ranges}
use Rattle.kd_json.specs.declared.fault.ConfigFault.{ConfigFault}
use Rattle.kd_json.specs.declared.fault.ConfigFault.TheVariants as faults
use Rattle.kd_json.specs.declared.objects.faults.ClassesFault.{ClassesFault}
use Rattle.kd_json.specs.declared.objects.faults.ClassesFault.TheVariants as classes
use Rattle.kd_fields.specs.declared.faults.SettingsFault.{SettingsFault}
use Rattle.kd_fields.specs.declared.faults.SettingsFault.TheVariants as settings
use Rattle.kd_config.specs.declared.pool.Pool.{Pool}
use Rattle.kd_config.specs.declared.prefix.Prefix.{Prefix}
use Rattle.kd_config.specs.declared.reservation.Identity.{Identity}
use Rattle.kd_config.specs.declared.reservation.Identity.TheVariants as clients
use Rattle.kd_json.specs.declared.rules.reservations.ClientKey.{ClientKey}
use Rattle.kd_json.specs.declared.rules.reservations.ClientKey.TheVariants as client_keys
use Rattle.kd_config.specs.declared.subnet.Subnet.{Subnet}

-- the client with these bytes, by the same kind of identity
abbrev pub client_by : ClientKey → Identity
client_by (client_keys.Hardware bytes) = clients.Hardware bytes.now
client_by (client_keys.Duid bytes) = clients.Duid bytes.now
client_by (client_keys.Circuit bytes) = clients.Circuit bytes.now
client_by (client_keys.ClientId bytes) = clients.ClientId bytes.now

-- subnets obey the rules after reserved addresses, and have at most `apart` pools
abbrev pub obey_within : ℕ → List ℕ → List Subnet → Bool
obey_within apart earlier subnets =
    nat_le (length (pool_ranges subnets)) apart && all_obey earlier subnets

-- pools are within a prefix, and there are at most `apart` of them
abbrev pub lie_and_fit : Prefix → ℕ → List Pool → Bool
lie_and_fit prefix apart pools =
    nat_le (length pools) apart && list_all (lies_within prefix) pools

-- a subnet obeys its rules after reserved addresses, and has at most `apart` pools
abbrev pub obeys_within : ℕ → List ℕ → Subnet → Bool
obeys_within apart earlier subnet = nat_le (length subnet.pools) apart && obeys earlier subnet

-- the fault of a configuration whose text describes no settings
abbrev pub settings_fault : SettingsFault → ConfigFault
settings_fault settings.Json = faults.Json
settings_fault (settings.Missing path) = faults.Missing path
settings_fault (settings.Unknown path) = faults.Unknown path
settings_fault (settings.BadValue path) = faults.BadValue path
settings_fault settings.Memory = faults.Memory

-- the fault of a configuration whose classes have no definitions
abbrev pub classes_fault : ClassesFault → ConfigFault
classes_fault (classes.Expression number why) = faults.Expression number why
classes_fault (classes.Tokens number why) = faults.Tokens number why
classes_fault (classes.Class why) = faults.Class why
classes_fault classes.Memory = faults.Memory
