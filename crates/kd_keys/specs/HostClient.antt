-- The client of a reservation in a configuration of Kea's: the bytes of exactly one kind of
-- identity, as text between quotation marks or in hexadecimal.
use Rattle.std.specs.Prelude.{ℕ, List, Option, Some, None, length, nat_le, option_map}
use Rattle.serde_json.specs.Data.{Data}
use Rattle.serde_json.specs.Find.{get}
use Rattle.kd_config.specs.declared.reservation.Identity.{Identity}
use Rattle.kd_config.specs.declared.reservation.Identity.TheVariants as clients
use Rattle.kd_config.specs.declared.reservation.IdentityKind.{IdentityKind}
use Rattle.kd_config.specs.declared.reservation.IdentityKind.TheVariants as kinds
use Rattle.kd_fields.specs.Steps.{only_if}
use Rattle.kd_keys.specs.HostKinds.{kind_key}
use Rattle.kd_keys.specs.Quoted.{bytes_written}
use Rattle.kd_wire.specs.Steps.{◌>>=◌}

-- the most bytes of a client, by its kind of identity
abbrev pub most_bytes : IdentityKind → ℕ
most_bytes kinds.Hardware = 16
most_bytes kinds.Duid = 128
most_bytes kinds.Circuit = 255
most_bytes kinds.ClientId = 255

-- the bytes of a client by a kind of identity, at least one
unfoldable pub host_bytes : IdentityKind → Data → Option (List ℕ)
host_bytes kind d = do
  bytes ← bytes_written (most_bytes kind) d
  only_if (nat_le 1 (length bytes)) bytes

-- the same, or none if there is no value
abbrev pub client_if_given : IdentityKind → Option Data → Option (Option (List ℕ))
client_if_given kind None = Some None
client_if_given kind (Some d) = option_map Some (host_bytes kind d)

-- the client whose bytes are given by one kind of identity, and by no other
abbrev pub one_client : Option (List ℕ) → Option (List ℕ) → Option (List ℕ) → Option (List ℕ) → Option Identity
one_client (Some bytes) None None None = Some (clients.Hardware bytes)
one_client None (Some bytes) None None = Some (clients.Duid bytes)
one_client None None (Some bytes) None = Some (clients.Circuit bytes)
one_client None None None (Some bytes) = Some (clients.ClientId bytes)
one_client _ _ _ _ = None

-- the client of a reservation
unfoldable pub kea_client : Data → Option Identity
kea_client d = do
  hardware ← client_if_given kinds.Hardware (get (kind_key kinds.Hardware) d)
  duid ← client_if_given kinds.Duid (get (kind_key kinds.Duid) d)
  circuit ← client_if_given kinds.Circuit (get (kind_key kinds.Circuit) d)
  client ← client_if_given kinds.ClientId (get (kind_key kinds.ClientId) d)
  one_client hardware duid circuit client
