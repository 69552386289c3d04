-- The lease that a client keeps as it renews it, whatever its classes and its circuit (our own
-- choice). A renewal is sent to the server alone (RFC 2131 section 4.4.5), so no relay adds to it what
-- the client's classes and its reservation were chosen by (RFC 3046).
use Rattle.std.specs.Prelude.{ℕ, Bool, true, false, not, ◌&&◌, ◌||◌, ◌==◌, length, List, Option, Some, None, is_none, option_map, if◌then◌else◌}
use Rattle.std.specs.List.{find}
use Rattle.std.specs.Option.{option_or}
use Rattle.std.specs.Str.{bytes_eq}
use Rattle.kd_config.specs.Address.{has_address}
use Rattle.kd_config.specs.Configuration.{Configuration}
use Rattle.kd_config.specs.Networks.{home_of}
use Rattle.kd_config.specs.Reservation.{has_reserved}
use Rattle.kd_config.specs.declared.reservation.Identity.{Identity}
use Rattle.kd_config.specs.declared.reservation.Identity.TheVariants as clients
use Rattle.kd_config.specs.declared.reservation.Reservation.{Reservation}
use Rattle.kd_config.specs.declared.subnet.Subnet.{Subnet}
use Rattle.kd_options.specs.Kind.{type_number}
use Rattle.kd_options.specs.Joined.{value_of}
use Rattle.kd_options.specs.Message.{Seen, mac_of}
use Rattle.kd_options.specs.declared.kind.MessageType.TheVariants as types
use Rattle.kd_rows.specs.Table.{belongs_to, row_at}
use Rattle.kd_rows.specs.declared.row.Row.{Row}
use Rattle.kd_rows.specs.declared.row.State.{State}
use Rattle.kd_rows.specs.declared.row.State.TheVariants as states
use Rattle.kd_lease.specs.Choice.{client_reservation, contained, has_such, live_row, reserved_in, same_value}
use Rattle.kd_lease.specs.Client.{duid_in, kind_of, named_server}

-- the state is that of a lease
abbrev pub bound_state : State → Bool
bound_state states.Bound = true
bound_state other = false

-- a client leases an address at a time: its row is the client's, has not ended, and is bound
abbrev pub is_leased_in : List Row → ℕ → List ℕ → ℕ → Bool
is_leased_in rows now client a =
    has_such (λ row. live_row now row && (belongs_to client row && bound_state row.state))
    (row_at rows a)

-- the address that the client says it has, unless that is zero
abbrev pub ciaddr_in : Seen → Option ℕ
ciaddr_in m = if m.header.ciaddr == 0 then None else Some m.header.ciaddr

-- there is an address, and it passes a test
abbrev pub passes : (ℕ → Bool) → Option ℕ → Bool
passes test None = false
passes test (Some a) = test a

-- a client renews its lease without a relay: a REQUEST that names no server and came through no
-- relay, for an address that the client has and leases
abbrev pub renews_lease : List Row → Seen → ℕ → List ℕ → Bool
renews_lease rows m now client =
    kind_of m == type_number types.Request
    && (is_none (named_server m)
    && (m.header.giaddr == 0 && passes (is_leased_in rows now client) (ciaddr_in m)))

-- a client is known by its circuit
abbrev pub is_behind_circuit : Identity → Bool
is_behind_circuit (clients.Circuit bytes) = true
is_behind_circuit other = false

-- a reservation, if there is one and it is for a circuit
abbrev pub if_for_circuit : Option Reservation → Option Reservation
if_for_circuit None = None
if_for_circuit (Some reservation) =
    if is_behind_circuit reservation.identity then Some reservation else None

-- the reservation of an address in a subnet, if it is for a circuit
abbrev pub circuit_reservation : Subnet → ℕ → Option Reservation
circuit_reservation s a = if_for_circuit (find (has_reserved a) s.reservations)

-- a reservation is for the client of a message by what the client itself says: its hardware address,
-- its identifier, or the DUID in it
abbrev pub is_own : Seen → Identity → Bool
is_own m (clients.Hardware bytes) = bytes_eq (mac_of m.header) bytes
is_own m (clients.Duid bytes) = same_value bytes (duid_in (value_of 61 m.options))
is_own m (clients.Circuit bytes) = false
is_own m (clients.ClientId bytes) = same_value bytes (value_of 61 m.options)

-- a reservation is for the client of a message by what the client itself says, in some classes
abbrev pub is_own_in_classes : Seen → Reservation → Bool
is_own_in_classes m reservation =
    is_own m reservation.identity && not (length reservation.classes == 0)

-- a reservation may be for the client of a message although no relay says what shows it: it is for a
-- circuit, or it is for the client in some classes
abbrev pub may_be_unseen : Seen → Reservation → Bool
may_be_unseen m reservation =
    is_behind_circuit reservation.identity || is_own_in_classes m reservation

-- a reservation, if there is one and it is of that kind
abbrev pub if_unseen : Seen → Option Reservation → Option Reservation
if_unseen m None = None
if_unseen m (Some reservation) = if may_be_unseen m reservation then Some reservation else None

-- the reservation of an address in a subnet, if it may be for the client of a message although no
-- relay says what shows it
abbrev pub unseen_reservation : Seen → Subnet → ℕ → Option Reservation
unseen_reservation m s a = if_unseen m (find (has_reserved a) s.reservations)

-- a message renews this address without a relay: it is a REQUEST that names no server and came
-- through no relay, and its client has the address
abbrev pub renews_alone : Seen → ℕ → Bool
renews_alone m a =
    kind_of m == type_number types.Request
    && (is_none (named_server m) && (m.header.giaddr == 0 && m.header.ciaddr == a))

-- the reservation that counts for the reply to a message with an address: that for its client, or
-- else, for a renewal without a relay where leases are kept, that of the address which may be its own
abbrev pub reservation_at : Configuration → List (List ℕ) → Seen → Subnet → ℕ → Option Reservation
reservation_at config names m s a =
    option_or (client_reservation config names m s)
    (if config.extensions.keeps_leases && renews_alone m a then unseen_reservation m s a else None)

-- a subnet has an address to keep: its prefix does, and a pool contains it, or it is reserved
abbrev pub has_to_keep : ℕ → Subnet → Bool
has_to_keep a s = has_address s.prefix a && (contained s a || reserved_in a s)

-- the subnet that has an address to keep: the shared network of the first that has it, or that
-- subnet itself
abbrev pub subnet_keeping : List Subnet → ℕ → Option Subnet
subnet_keeping subnets a = option_map (home_of subnets) (find (has_to_keep a) subnets)

-- the subnet in which a client keeps the lease that it renews, if it does. It is in its classes by
-- what a relay said of it, and no relay says so now: so no class guards the address
abbrev pub kept_in : Configuration → List Row → Seen → ℕ → List ℕ → Option Subnet
kept_in config rows m now client =
    if config.extensions.keeps_leases && renews_lease rows m now client
    then subnet_keeping config.subnets m.header.ciaddr else None
