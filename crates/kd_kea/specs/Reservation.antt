-- A reservation in a configuration of Kea's: a client, its address if it has one, and the options,
-- boot fields and classes of that client.
use Rattle.std.specs.Prelude.{ℕ, Bool, codes, List, [], Option, Some, None, option_map}
use Rattle.serde_json.specs.Data.{Data}
use Rattle.serde_json.specs.Find.{get}
use Rattle.kd_config.specs.declared.reservation.Reservation.{Reservation}
use Rattle.kd_fields.specs.Steps.{must}
use Rattle.kd_fields.specs.Values.{address_given}
use Rattle.kd_keys.specs.Boot.{boot_listed, own_boot}
use Rattle.kd_keys.specs.ClassNames.{classes_given}
use Rattle.kd_keys.specs.HostClient.{kea_client}
use Rattle.kd_keys.specs.HostKinds.{are_all_found}
use Rattle.kd_keys.specs.HostName.{host_options}
use Rattle.kd_keys.specs.Keys.{keys_are_read}
use Rattle.kd_keys.specs.Tables.{host_keys}
use Rattle.kd_keys.specs.declared.definition.DefinedOption.{DefinedOption}
use Rattle.kd_keys.specs.declared.host_kinds.HostKinds.{HostKinds}
use Rattle.kd_wire.specs.Steps.{◌>>=◌}

-- the address of a value, or none if there is no value
abbrev pub address_if_given : Option Data → Option (Option ℕ)
address_if_given None = Some None
address_if_given (Some d) = option_map Some (address_given d)

-- the reservation that a value describes, with these definitions of options, where reservations are
-- looked for by these kinds of identity, and host names have no suffix or have one
unfoldable pub kea_reservation : List DefinedOption → HostKinds → Bool → Data → Option Reservation
kea_reservation known kinds bare d = do
  _ ← must (keys_are_read host_keys d)
  _ ← must (are_all_found kinds d)
  client ← kea_client d
  address ← address_if_given (get (codes "ip-address") d)
  options ← host_options known bare d
  boot ← own_boot d
  joins ← classes_given d
  Some (record { identity = client; address = address; options = options; boots = boot_listed boot; classes = []; joins = joins })
