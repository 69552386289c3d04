-- The options of a reply (RFC 2131 section 4.3.1, table 3; RFC 2132 sections 9.2, 9.6, 9.7, 9.11
-- and 9.12; RFC 6842 section 3; RFC 3046 section 2.2): which options a reply of each kind has, and
-- in which order.
use Rattle.std.specs.Prelude.{ℕ, List, [], ◌∷◌, ◌++◌, Option, Some, None}
use Rattle.byteorder.specs.Endian.{big_bytes}
use Rattle.kd_config.specs.declared.subnet.Subnet.{Subnet}
use Rattle.kd_config.specs.declared.times.Times.{Times}
use Rattle.kd_options.specs.Joined.{value_of}
use Rattle.kd_lease.specs.Choice.{Asking}
use Rattle.kd_lease.specs.Given.{configured_options, given}
use Rattle.kd_lease.specs.Booting.{reply_fields}
use Rattle.kd_lease.specs.Plan.{Content, ReplyOption}
use Rattle.kd_lease.specs.ReplyOf.{obligatory, returned}
use Rattle.kd_lease.specs.Rules.{granted_times, serving_subnet}
use Rattle.kd_lease.specs.Server.{server_identifier}
use Rattle.kd_lease.specs.declared.plan.PlanKind.{PlanKind}
use Rattle.kd_lease.specs.declared.plan.PlanKind.TheVariants as kinds

-- the message type of a reply
abbrev pub plan_type : PlanKind → ℕ
plan_type kinds.Offer = 2
plan_type kinds.Ack = 5
plan_type kinds.InformAck = 5
plan_type kinds.Nak = 6

-- the times of a lease: how long it lasts, and when to renew and to rebind it
abbrev pub lease_times : Times → List ReplyOption
lease_times times =
    obligatory 51 (big_bytes 4 times.lifetime) ++ obligatory 58 (big_bytes 4 times.renew)
    ++ obligatory 59 (big_bytes 4 times.rebind)

-- the times in a reply: only a reply that assigns an address has them
abbrev pub times_in : PlanKind → Times → List ReplyOption
times_in kinds.Offer times = lease_times times
times_in kinds.Ack times = lease_times times
times_in kinds.InformAck times = []
times_in kinds.Nak times = []

-- the configured options at an address of a subnet, if there is a subnet
abbrev pub configured_in : Asking → Option Subnet → ℕ → List ReplyOption
configured_in q None address = []
configured_in q (Some s) address =
    configured_options q.message (given q.config s q.names q.message address)

-- the configured options of a reply: those at the address that it assigns, or at the address that
-- the client has; a NAK has none
abbrev pub configured_for : Asking → PlanKind → ℕ → List ReplyOption
configured_for q kinds.Offer yiaddr = configured_in q (serving_subnet q) yiaddr
configured_for q kinds.Ack yiaddr = configured_in q (serving_subnet q) yiaddr
configured_for q kinds.InformAck yiaddr = configured_in q (serving_subnet q) q.message.header.ciaddr
configured_for q kinds.Nak yiaddr = []

-- the options of a reply: type and server, the times of a lease, the client identifier as it came,
-- the configured options, the relay agent information as it came
unfoldable pub reply_options : Asking → PlanKind → ℕ → List ReplyOption
reply_options q kind yiaddr =
    obligatory 53 (plan_type kind ∷ []) ++ obligatory 54 (big_bytes 4 (server_identifier q.config q.message))
    ++ times_in kind (granted_times q yiaddr)
    ++ returned 61 (value_of 61 q.message.options) ++ configured_for q kind yiaddr
    ++ returned 82 (value_of 82 q.message.options)

-- the content of a reply
abbrev pub reply_content : Asking → PlanKind → ℕ → Content
reply_content q kind yiaddr =
    record { fields = reply_fields q kind yiaddr; options = reply_options q kind yiaddr }
