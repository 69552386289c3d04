-- The relays that a subnet of Kea's names as its own (Kea Administrator Reference Manual, section
-- Using a Specific Relay Agent for a Subnet).
use Rattle.std.specs.Prelude.{ℕ, List, [], ◌∷◌, codes, Option, Some, None, option_map}
use Rattle.serde_json.specs.Data.{Data}
use Rattle.serde_json.specs.Find.{get}
use Rattle.kd_fields.specs.Lists.{list_of}
use Rattle.kd_fields.specs.Steps.{must}
use Rattle.kd_fields.specs.Values.{address_given}
use Rattle.kd_keys.specs.Keys.{keys_are_read}
use Rattle.kd_keys.specs.Tables.{relay_keys}
use Rattle.kd_wire.specs.Steps.{◌>>=◌}

-- the addresses of relays: a list of at most 64, or one alone, but not both
abbrev pub relays_by : Option Data → Option Data → Option (List ℕ)
relays_by many None = list_of 64 address_given many
relays_by None (Some d) = option_map (λ address. address ∷ []) (address_given d)
relays_by (Some many) (Some d) = None

-- the relays that a value describes
unfoldable pub kea_relay : Data → Option (List ℕ)
kea_relay d = do
  _ ← must (keys_are_read relay_keys d)
  relays_by (get (codes "ip-addresses") d) (get (codes "ip-address") d)

-- the relays of a subnet, or none if it names none
abbrev pub relays_of : Option Data → Option (List ℕ)
relays_of None = Some []
relays_of (Some d) = kea_relay d
