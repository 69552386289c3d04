-- A reply as its client reads it (RFC 2131 sections 2 and 4.3.1, table 3; RFC 6842 section 3): it is
-- a DHCP message, and what it says is what the rules decided.
use Rattle.std.specs.Prelude.{◌≡◌, ℕ, List, Option, Some, None}
use Rattle.byteorder.specs.Endian.{big_bytes}
use Rattle.kd_config.specs.Configuration.{Configuration}
use Rattle.kd_config.specs.Sound.{IsSound}
use Rattle.kd_config.specs.declared.times.Times.{Times}
use Rattle.kd_lease.specs.Change.{Changes}
use Rattle.kd_lease.specs.Client.{identity_under, kind_of, reply_room}
use Rattle.kd_lease.specs.Plan.{Content}
use Rattle.kd_lease.specs.Plan.Outcome.{planned}
use Rattle.kd_lease.specs.ReplyOf.{IsReplyText, header_of_reply}
use Rattle.kd_lease.specs.ReplyOptions.{plan_type}
use Rattle.kd_lease.specs.declared.booting.BootFields.{BootFields}
use Rattle.kd_lease.specs.declared.plan.PlanKind.{PlanKind}
use Rattle.kd_lease.specs.declared.plan.PlanKind.TheVariants as kinds
use Rattle.kd_options.specs.Joined.{value_of}
use Rattle.kd_options.specs.Message.{IsMessage, Reads, Seen}
use Rattle.kd_rows.specs.declared.row.Row.{Row}
use Rattle.kd_laws.specs.Granted.{AreGranted}

-- the value of option 51 in a reply: the lifetime, if the reply assigns an address
abbrev pub lifetime_told : PlanKind → Times → Option (List ℕ)
lifetime_told kinds.Offer times = Some (big_bytes 4 times.lifetime)
lifetime_told kinds.Ack times = Some (big_bytes 4 times.lifetime)
lifetime_told kinds.InformAck times = None
lifetime_told kinds.Nak times = None

-- bytes read as a message with the header of a reply with these boot fields, of this type, for the
-- client of a message, and with the lifetime that the rules give for its address
pub record ReadsAsReply (config : Configuration) (rows : List Row) (m : Seen) (now : ℕ)
    (kind : PlanKind) (yiaddr : ℕ) (fields : BootFields) (text : List ℕ) : Type 0 where
  pub reply : Seen
  pub reads : Reads text reply
  pub header : reply.header ≡ header_of_reply kind yiaddr fields m.header
  pub type : kind_of reply ≡ plan_type kind
  pub client : identity_under config reply ≡ identity_under config m
  pub times : Times
  pub granted : AreGranted config rows m now yiaddr times
  pub lifetime : value_of 51 reply.options ≡ lifetime_told kind times

-- whatever a reply's text is by the rules, over a configuration that obeys its limits, it reads as
-- the reply that was decided
abbrev pub RepliesReadBack : Type 0
RepliesReadBack =
    (config : Configuration) (old new : List Row) (m : Seen) (now : ℕ) (kind : PlanKind)
    (yiaddr : ℕ) (content : Content) (text : List ℕ)
    → IsSound config → IsMessage m → Changes config old m now new (planned kind yiaddr content)
    → IsReplyText (header_of_reply kind yiaddr content.fields m.header) (reply_room m)
    content.options text
    → ReadsAsReply config old m now kind yiaddr content.fields text
