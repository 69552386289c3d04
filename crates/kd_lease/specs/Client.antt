-- What a message says about its client (RFC 2131 sections 2 and 4.2, RFC 2132 sections 9.6, 9.8,
-- 9.10 and 9.14, RFC 3046 section 3.1, RFC 3527, RFC 4361; Kea Administrator Reference Manual, Using
-- Client Identifier and Hardware Address): its type, who the client is, which server it names, which
-- options it asks for, how long a reply may be, and the link and the circuit on which its relay says
-- that it is.
use Rattle.std.specs.Prelude.{ℕ, ◌+◌, ◌-◌, ◌*◌, max, min, Bool, true, ◌||◌, ◌==◌, nat_eq, List, [], ◌∷◌, Option, Some, None, if◌then◌else◌}
use Rattle.std.specs.Int.{from_be_bytes, w32}
use Rattle.std.specs.List.{list_any}
use Rattle.std.specs.Map.{lookup}
use Rattle.std.specs.Option.{option_or}
use Rattle.kd_config.specs.Configuration.{Configuration}
use Rattle.kd_config.specs.declared.reservation.IdentityKind.{IdentityKind}
use Rattle.kd_config.specs.declared.reservation.IdentityKind.TheVariants as kinds
use Rattle.kd_options.specs.Joined.{value_of}
use Rattle.kd_options.specs.Message.{Seen, mac_of}
use Rattle.kd_options.specs.RelayWalk.{relay_list}

-- the first byte of a value, 0 if there is none
abbrev pub first_byte : Option (List ℕ) → ℕ
first_byte None = 0
first_byte (Some []) = 0
first_byte (Some (b ∷ bytes)) = b

-- the number of a message's type
abbrev pub kind_of : Seen → ℕ
kind_of m = first_byte (value_of 53 m.options)

-- a message that servers send: its op is 2, or it is an OFFER, an ACK or a NAK
abbrev pub server_message : Seen → Bool
server_message m = m.header.op == 2 || kind_of m == 2 || kind_of m == 5 || kind_of m == 6

-- the identity by the hardware: 0, the hardware type, and the hardware address, if there is one
abbrev pub identity_by_hardware : ℕ → List ℕ → Option (List ℕ)
identity_by_hardware htype [] = None
identity_by_hardware htype (b ∷ mac) = Some (0 ∷ htype ∷ b ∷ mac)

-- the identity of a client with this client identifier: 1 and the identifier, if it is present and
-- not empty; otherwise the identity by the hardware
abbrev pub identity_by : Option (List ℕ) → Option (List ℕ) → Option (List ℕ)
identity_by None hardware = hardware
identity_by (Some []) hardware = hardware
identity_by (Some (b ∷ bytes)) hardware = Some (1 ∷ b ∷ bytes)

-- who the client is: by option 61, otherwise by its hardware
abbrev pub client_identity : Seen → Option (List ℕ)
client_identity m =
    identity_by (value_of 61 m.options) (identity_by_hardware m.header.htype (mac_of m.header))

-- who the client is where identifiers are ignored: by its hardware, otherwise by option 61
abbrev pub hardware_identity : Seen → Option (List ℕ)
hardware_identity m =
    option_or (identity_by_hardware m.header.htype (mac_of m.header))
    (identity_by (value_of 61 m.options) None)

-- who the client is in a configuration, which may ignore identifiers
abbrev pub identity_under : Configuration → Seen → Option (List ℕ)
identity_under config m =
    if config.extensions.ignores_client_ids then hardware_identity m else client_identity m

-- the address in a value of four bytes
abbrev pub address_of_value : Option (List ℕ) → Option ℕ
address_of_value (Some (a ∷ b ∷ c ∷ d ∷ [])) = Some (from_be_bytes w32 (a ∷ b ∷ c ∷ d ∷ []))
address_of_value other = None

-- the address that the client asks for in option 50
abbrev pub requested_address : Seen → Option ℕ
requested_address m = address_of_value (value_of 50 m.options)

-- the server that a message names, option 54
abbrev pub named_server : Seen → Option ℕ
named_server m = address_of_value (value_of 54 m.options)

-- the link that a relay selects for its client: sub-option 5 of option 82, if it has four bytes
abbrev pub selected_link : Seen → Option ℕ
selected_link m = address_of_value (lookup (nat_eq 5) (relay_list m.options))

-- the server identifier that a relay sets for its client: sub-option 11 of option 82 (RFC 5107), if
-- it has four bytes
abbrev pub set_identifier : Seen → Option ℕ
set_identifier m = address_of_value (lookup (nat_eq 11) (relay_list m.options))

-- an address, or else another one
abbrev pub address_or : Option ℕ → ℕ → ℕ
address_or None other = other
address_or (Some a) other = a

-- the DUID in a client identifier (RFC 4361 section 6.1): what follows its type, 255, and four bytes
-- of an identity association, unless that is nothing
abbrev pub duid_in : Option (List ℕ) → Option (List ℕ)
duid_in (Some (type ∷ a ∷ b ∷ c ∷ d ∷ e ∷ bytes)) = if type == 255 then Some (e ∷ bytes) else None
duid_in other = None

-- the circuit that a message comes from: sub-option 1 of option 82, if a relay passed it on
abbrev pub circuit_of : Seen → Option (List ℕ)
circuit_of m = if m.header.giaddr == 0 then None else lookup (nat_eq 1) (relay_list m.options)

-- what a message says of its client by a kind of identity
abbrev pub client_bytes : Seen → IdentityKind → Option (List ℕ)
client_bytes m kinds.Hardware = Some (mac_of m.header)
client_bytes m kinds.Duid = duid_in (value_of 61 m.options)
client_bytes m kinds.Circuit = circuit_of m
client_bytes m kinds.ClientId = value_of 61 m.options

-- a code is asked for: option 55 lists it, or is absent
abbrev pub is_asked_in : ℕ → Option (List ℕ) → Bool
is_asked_in code None = true
is_asked_in code (Some list) = list_any (λ c. c == code) list

-- the message asks for this option
abbrev pub wants_option : ℕ → Seen → Bool
wants_option code m = is_asked_in code (value_of 55 m.options)

-- the longest message that the client accepts: option 57 if it has two bytes, otherwise 576
abbrev pub greatest_by : Option (List ℕ) → ℕ
greatest_by (Some (a ∷ b ∷ [])) = a * 256 + b
greatest_by other = 576

-- the room for a reply: that length without the IP and UDP headers, from 548 to 1472 bytes
abbrev pub reply_room : Seen → ℕ
reply_room m = min 1472 (max 576 (greatest_by (value_of 57 m.options)) - 28)
