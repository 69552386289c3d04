-- Where a reply goes (RFC 2131 section 4.1), by the fields of the message, not of the reply.
use Rattle.std.specs.Prelude.{ℕ, Bool, true, false, not, ◌==◌, nat_le, if◌then◌else◌}
use Rattle.kd_event.specs.declared.destination.Destination.{Destination}
use Rattle.kd_event.specs.declared.destination.Mode.TheVariants as modes
use Rattle.kd_event.specs.declared.ports.Ports.{Ports}
use Rattle.kd_lease.specs.declared.plan.PlanKind.{PlanKind}
use Rattle.kd_lease.specs.declared.plan.PlanKind.TheVariants as kinds
use Rattle.kd_wire.specs.declared.header.Header.{Header}

-- a NAK
abbrev pub is_nak : PlanKind → Bool
is_nak kinds.Nak = true
is_nak other = false

-- the leftmost bit of the flags is set
abbrev pub asks_for_broadcast : Header → Bool
asks_for_broadcast h = nat_le 0x8000 h.flags

-- the destination of a reply: to the relay; otherwise a NAK is broadcast; otherwise to the address
-- that the client has; otherwise by broadcast if the client asks for it; otherwise to its hardware
-- address, with its new address
unfoldable pub destination_of : Header → PlanKind → ℕ → Ports → Destination
destination_of h kind yiaddr ports =
    if not (h.giaddr == 0)
    then record { mode = modes.Relay; address = h.giaddr; port = ports.server }
    else if is_nak kind
    then record { mode = modes.Broadcast; address = 0xffffffff; port = ports.client }
    else if not (h.ciaddr == 0)
    then record { mode = modes.Unicast; address = h.ciaddr; port = ports.client }
    else if asks_for_broadcast h
    then record { mode = modes.Broadcast; address = 0xffffffff; port = ports.client }
    else record { mode = modes.Hardware; address = yiaddr; port = ports.client }
