-- Where a reply goes that is sent by a socket.
use Rattle.std.specs.Prelude.{◌≡◌, ℕ, ◌==◌, Bool, true, false, Option, Some, None, if◌then◌else◌}
use Rattle.std.specs.Net.Addr.{IsIpv4OfBits}
use Rattle.std.specs.Net.Socket.{socket_ip, socket_port}
use Rattle.std.specs.declared.net.ip_addr.IpAddr.TheVariants.{V4}
use Rattle.std.specs.declared.net.ipv4_addr.Ipv4Addr.{Ipv4Addr}
use Rattle.std.specs.declared.net.socket_addr.SocketAddr.{SocketAddr}
use Rattle.kd_event.specs.declared.destination.Destination.{Destination}
use Rattle.kd_event.specs.declared.destination.Mode.{Mode}
use Rattle.kd_event.specs.declared.destination.Mode.TheVariants as modes

-- the address of all hosts of a link, 255.255.255.255
abbrev pub all_hosts : ℕ
all_hosts = 0xffffffff

-- a reply to a hardware address goes to all hosts, because a socket cannot name such an address
-- (RFC 2131 section 4.1)
abbrev pub address_by_mode : Mode → ℕ → ℕ
address_by_mode modes.Hardware address = all_hosts
address_by_mode mode address = address

-- the address used for all hosts, which may be another one
abbrev pub address_of_all : Option ℕ → ℕ
address_of_all None = all_hosts
address_of_all (Some other) = other

-- the address that a reply is sent to
abbrev pub address_for : Option ℕ → Destination → ℕ
address_for broadcast_as to =
    if address_by_mode to.mode to.address == all_hosts then address_of_all broadcast_as
    else address_by_mode to.mode to.address

-- a place has this IPv4 address, a number in host order, and this port
pub record HasAddressAndPort (address port : ℕ) (place : SocketAddr) : Type 0 where
  pub ip : Ipv4Addr
  pub is : socket_ip place ≡ V4 ip
  pub bits : IsIpv4OfBits ip address
  pub port_is : socket_port place ≡ port

-- where a reply goes, by whether replies are mirrored, the address used for all hosts, and the
-- sender of the datagram: to that sender, or to the address and port of the reply's destination
abbrev pub GoesTo : Bool → Option ℕ → Option SocketAddr → Destination → SocketAddr → Type 0
GoesTo true broadcast_as (Some sender) to place = place ≡ sender
GoesTo true broadcast_as None to place = HasAddressAndPort (address_for broadcast_as to) to.port place
GoesTo false broadcast_as sender to place = HasAddressAndPort (address_for broadcast_as to) to.port place
