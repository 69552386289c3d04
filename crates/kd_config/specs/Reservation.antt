-- The reservation for a client: the first for its hardware address or its identifier, or the one
-- for it by one kind of identity, and how it is found; and what a reservation has.
use Rattle.std.specs.Prelude.{◌≡◌, ℕ, ◌==◌, min, length, Bool, false, not, ◌||◌, List, [], ◌∷◌, Option, Some, None}
use Rattle.std.specs.List.{position_from}
use Rattle.std.specs.Str.{bytes_eq}
use Rattle.kd_config.specs.declared.reservation.Identity.{Identity}
use Rattle.kd_config.specs.declared.reservation.Identity.TheVariants as clients
use Rattle.kd_config.specs.declared.reservation.IdentityKind.{IdentityKind}
use Rattle.kd_config.specs.declared.reservation.IdentityKind.TheVariants as kinds
use Rattle.kd_config.specs.declared.reservation.Reservation.{Reservation}

-- there is an address, and it is this one
abbrev pub same_address : Option ℕ → ℕ → Bool
same_address None a = false
same_address (Some b) a = b == a

-- a reservation has this address
abbrev pub has_reserved : ℕ → Reservation → Bool
has_reserved a reservation = same_address reservation.address a

-- the addresses that there are: one, or none
abbrev pub listed : Option ℕ → List ℕ
listed None = []
listed (Some a) = a ∷ []

-- a reservation has options
abbrev pub has_options : Reservation → Bool
has_options reservation = not (length reservation.options == 0)

-- a reservation has a value for boot fields
abbrev pub has_boots : Reservation → Bool
has_boots reservation = not (length reservation.boots == 0)

-- the client has these bytes, by this kind of identity
abbrev pub is_client : IdentityKind → List ℕ → Identity → Bool
is_client kinds.Hardware bytes (clients.Hardware own) = bytes_eq bytes own
is_client kinds.Duid bytes (clients.Duid own) = bytes_eq bytes own
is_client kinds.Circuit bytes (clients.Circuit own) = bytes_eq bytes own
is_client kinds.ClientId bytes (clients.ClientId own) = bytes_eq bytes own
is_client _ _ _ = false

-- the same, if there are bytes
abbrev pub is_client_if : IdentityKind → Option (List ℕ) → Identity → Bool
is_client_if kind None identity = false
is_client_if kind (Some bytes) identity = is_client kind bytes identity

-- the client has this hardware address, or this identifier, if there is one
abbrev pub identified_by : List ℕ → Option (List ℕ) → Identity → Bool
identified_by mac id identity =
    is_client kinds.Hardware mac identity || is_client_if kinds.ClientId id identity

-- the lookup of an address finds the place of its reservation
abbrev pub AreAddresses : (ℕ → Option ℕ) → List Reservation → Type 0
AreAddresses found reservations =
    (a : ℕ) → found a ≡ position_from (has_reserved a) 0 reservations

-- what is found for bytes, if there are any
abbrev pub found_if : (List ℕ → Option ℕ) → Option (List ℕ) → Option ℕ
found_if found None = None
found_if found (Some bytes) = found bytes

-- the lesser of two places, if there are any
abbrev pub earlier : Option ℕ → Option ℕ → Option ℕ
earlier None b = b
earlier (Some a) None = Some a
earlier (Some a) (Some b) = Some (min a b)
