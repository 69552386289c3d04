-- The reply to a message: its header, whether its options fit, and its bytes (RFC 2131 sections 4.1
-- and 4.3, table 3).
use Rattle.std.specs.Prelude.{◌≡◌, ℕ, ◌+◌, Bool, true, ◌==◌, List, [], ◌∷◌, Option, Some, None, map, length, nat_le, sum_by, bit_or, if◌then◌else◌}
use Rattle.kd_options.specs.Reply.{cost_of, reply_text}
use Rattle.kd_options.specs.declared.item.Item.{Item}
use Rattle.kd_lease.specs.Plan.{ReplyOption, option_of_item}
use Rattle.kd_lease.specs.declared.booting.BootFields.{BootFields}
use Rattle.kd_lease.specs.declared.plan.PlanKind.{PlanKind}
use Rattle.kd_lease.specs.declared.plan.PlanKind.TheVariants as kinds
use Rattle.kd_wire.specs.declared.header.Header.{Header}

-- the flags: a NAK through a relay asks the relay to broadcast; otherwise those of the message
abbrev pub flags_of_reply : PlanKind → Header → ℕ
flags_of_reply kinds.Nak h = if h.giaddr == 0 then h.flags else bit_or h.flags 0x8000
flags_of_reply other h = h.flags

-- the field `ciaddr`: in an ACK that of the message, otherwise zero
abbrev pub ciaddr_of_reply : PlanKind → Header → ℕ
ciaddr_of_reply kinds.Offer h = 0
ciaddr_of_reply kinds.Ack h = h.ciaddr
ciaddr_of_reply kinds.InformAck h = h.ciaddr
ciaddr_of_reply kinds.Nak h = 0

-- the header of a reply with these boot fields to a message with this header
unfoldable pub header_of_reply : PlanKind → ℕ → BootFields → Header → Header
header_of_reply kind yiaddr fields h = record {
  op = 2;
  htype = h.htype;
  hlen = h.hlen;
  hops = 0;
  xid = h.xid;
  secs = 0;
  flags = flags_of_reply kind h;
  ciaddr = ciaddr_of_reply kind h;
  yiaddr = yiaddr;
  siaddr = fields.siaddr;
  giaddr = h.giaddr;
  chaddr = h.chaddr;
  sname = fields.sname;
  file = fields.file;
}

-- the boot fields in a header
abbrev pub fields_in_header : Header → BootFields
fields_in_header h = record { siaddr = h.siaddr; sname = h.sname; file = h.file }

-- an option that is always written
abbrev pub obligatory : ℕ → List ℕ → List ReplyOption
obligatory code value = record { code = code; value = value; obligatory = true } ∷ []

-- an option of the message, returned as it came, if it is present
abbrev pub returned : ℕ → Option (List ℕ) → List ReplyOption
returned code None = []
returned code (Some value) = obligatory code value

-- the bytes that an option needs if it is mandatory, otherwise 0
abbrev pub needed : ReplyOption → ℕ
needed option = if option.obligatory then cost_of (length option.value) else 0

-- the mandatory options fit into the room, with header, cookie and End
abbrev pub within_room : ℕ → List ReplyOption → Bool
within_room room options = nat_le (240 + sum_by needed options + 1) room

-- the bytes of a reply with these options
abbrev pub IsReplyText : Header → ℕ → List ReplyOption → List ℕ → Type 0
IsReplyText header room options text =
    (items : List Item) × (map option_of_item items ≡ options)
    × (text ≡ reply_text header room items)
