-- The types of DHCP messages and their numbers (RFC 2132 section 9.6).
use Rattle.std.specs.Prelude.{ℕ}
use Rattle.kd_options.specs.declared.kind.MessageType.{MessageType}
use Rattle.kd_options.specs.declared.kind.MessageType.TheVariants.{Discover, Offer, Request, Decline, Ack, Nak, Release, Inform}

-- the number of each type on the wire
abbrev pub type_number : MessageType → ℕ
type_number Discover = 1
type_number Offer = 2
type_number Request = 3
type_number Decline = 4
type_number Ack = 5
type_number Nak = 6
type_number Release = 7
type_number Inform = 8
