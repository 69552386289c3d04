-- A reservation: an address for the client with a hardware address or an identifier.
use Rattle.std.specs.Prelude.{ℕ, Bool, List, [], ◌∷◌, codes, Option, Some, None}
use Rattle.serde_json.specs.Data.{Data}
use Rattle.serde_json.specs.Find.{get}
use Rattle.kd_config.specs.declared.reservation.Identity.{Identity}
use Rattle.kd_config.specs.declared.reservation.Identity.TheVariants.{Hardware, ClientId}
use Rattle.kd_config.specs.declared.reservation.Reservation.{Reservation}
use Rattle.kd_fields.specs.Steps.{must}
use Rattle.kd_fields.specs.Values.{address_given, bytes_if_given, has_keys}
use Rattle.kd_wire.specs.Steps.{◌>>=◌}

-- a value is an object with the keys of a reservation
unfoldable pub has_reservation_keys : Data → Bool
has_reservation_keys d =
    has_keys (codes "hw-address" ∷ codes "client-id" ∷ codes "ip-address" ∷ [])
    (codes "ip-address" ∷ []) d

-- one of the two, but not both
abbrev pub one_identity : Option (List ℕ) → Option (List ℕ) → Option Identity
one_identity (Some hardware) None = Some (Hardware hardware)
one_identity None (Some client) = Some (ClientId client)
one_identity _ _ = None

-- the client of a reservation
unfoldable pub identity_given : Data → Option Identity
identity_given d = do
  hardware ← bytes_if_given 1 16 (get (codes "hw-address") d)
  client ← bytes_if_given 1 255 (get (codes "client-id") d)
  one_identity hardware client

-- the reservation that a value describes
unfoldable pub reservation_of : Data → Option Reservation
reservation_of d = do
  _ ← must (has_reservation_keys d)
  identity ← identity_given d
  address ← get (codes "ip-address") d >>= address_given
  Some (record { identity = identity; address = Some address; options = []; boots = []; classes = []; joins = [] })
