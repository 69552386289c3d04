-- The lines of the outcome of a message: how it ends, the boot fields and the options of its reply,
-- and the row it sets.
use Rattle.std.specs.Prelude.{◌≡◌, ℕ, max, Bool, true, false, ◌==◌, ◌||◌, if◌then◌else◌, List, [], ◌∷◌, ◌++◌, Option, Some, None, Result, Ok, Err, codes, decimal, slice_get, option_copied}
use Rattle.kd_classes.specs.declared.definition.ClassDef.{ClassDef}
use Rattle.kd_config.specs.Configuration.{Configuration}
use Rattle.kd_config.specs.Networks.{part_holding}
use Rattle.kd_config.specs.declared.subnet.Subnet.{Subnet}
use Rattle.kd_config.specs.declared.term.Term.{Term}
use Rattle.kd_event.specs.Reason.{reason_name, reason_number}
use Rattle.kd_event.specs.declared.reason.Reason.{Reason}
use Rattle.kd_lease.specs.declared.plan.Plan.{Plan}
use Rattle.kd_lease.specs.declared.plan.PlanKind.{PlanKind}
use Rattle.kd_lease.specs.declared.plan.PlanKind.TheVariants as kinds
use Rattle.kd_listing.specs.Leases.{row_text}
use Rattle.kd_options.specs.Joined.{value_of}
use Rattle.kd_options.specs.Message.{Reads, Seen}
use Rattle.kd_options.specs.Reply.{reply_text}
use Rattle.kd_options.specs.declared.item.Item.{Item}
use Rattle.kd_rows.specs.declared.row.Row.{Row}
use Rattle.kd_text.specs.Text.{address_text, bytes_text}
use Rattle.kd_wire.specs.declared.header.Header.{Header}
use Rattle.kd_explain.specs.BootLines.{IsBootOrigin, field_line}
use Rattle.kd_explain.specs.Lifetimes.{IsLifetimeOrigin}
use Rattle.kd_explain.specs.Origins.{IsOrigin}
use Rattle.kd_explain.specs.Words.{name_text}
use Rattle.kd_explain.specs.declared.boot_origins.BootField.{BootField}
use Rattle.kd_explain.specs.declared.boot_origins.BootField.TheVariants as fields
use Rattle.kd_explain.specs.declared.explaining.Explanation.{Explanation}
use Rattle.kd_explain.specs.declared.origins.Origin.{Origin}
use Rattle.kd_explain.specs.declared.origins.Origin.TheVariants as origins

-- ---- how it ends, and the row

-- a reply, and the address that it gives
abbrev pub ends_line : PlanKind → ℕ → List ℕ
ends_line kinds.Offer a = codes "ends OFFER " ++ address_text a ++ codes "\n"
ends_line kinds.Ack a = codes "ends ACK " ++ address_text a ++ codes "\n"
ends_line kinds.InformAck a = codes "ends ACK\n"
ends_line kinds.Nak a = codes "ends NAK\n"

-- no reply, and why
abbrev pub silence_line : Reason → List ℕ
silence_line reason =
    codes "ends quiet " ++ decimal (reason_number reason) ++ codes " " ++ reason_name reason
    ++ codes "\n"

-- a row, if there is one
abbrev pub row_word : Option Row → List ℕ
row_word None = codes "-"
row_word (Some row) = row_text row

-- the row that is set
abbrev pub set_line : Option Row → List ℕ
set_line set = codes "row " ++ row_word set ++ codes "\n"

-- ---- the options of a reply

-- the name of a class, if there is one
abbrev pub origin_class : Option ClassDef → List ℕ
origin_class None = codes "-"
origin_class (Some class) = name_text class.name

-- where a configured option, or the value of a boot field, comes from
abbrev pub origin_word : List ClassDef → Option Origin → List ℕ
origin_word classes None = codes "-"
origin_word classes (Some origins.Reservation) = codes "reservation"
origin_word classes (Some origins.Pool) = codes "pool"
origin_word classes (Some origins.Subnet) = codes "subnet"
origin_word classes (Some origins.Network) = codes "network"
origin_word classes (Some (origins.Class i)) = codes "class " ++ origin_class (slice_get classes i)
origin_word classes (Some origins.Global) = codes "all"
origin_word classes (Some origins.Mask) = codes "mask"

-- where an option that each reply of its kind has comes from: options 61 and 82 are copied from the
-- message (RFC 6842 section 3; RFC 3046 section 2.2)
abbrev pub required_word : ℕ → List ℕ
required_word code = if code == 61 || code == 82 then codes "message" else codes "reply"

-- where the lifetime comes from; `reply` if it is that of the whole server
abbrev pub lifetime_word : List ClassDef → Option Origin → List ℕ
lifetime_word classes None = codes "reply"
lifetime_word classes (Some origin) = origin_word classes (Some origin)

-- the term at an address of the subnet that serves a message, if there is one; in a network, that of
-- the subnet in it that has the address
abbrev pub term_in : Configuration → Option Subnet → ℕ → Option Term
term_in config None a = None
term_in config (Some s) a = (part_holding config.subnets s a).term

-- where an option that a reply must have comes from, by whether it is option 51, the lifetime
abbrev pub IsRequiredWord : Configuration → List (List ℕ) → Option Subnet → ℕ → Bool → ℕ → List ℕ
    → Type 0
IsRequiredWord config names s a true code word =
    (origin : Option Origin) × IsLifetimeOrigin config (term_in config s a) names origin
    × (word ≡ lifetime_word config.classes origin)
IsRequiredWord config names s a false code word = word ≡ required_word code

-- where a configured option of the reply to a message comes from at an address of the subnet that
-- serves the message
abbrev pub IsConfiguredWord : Configuration → Seen → List (List ℕ) → Option Subnet → ℕ → ℕ
    → List ℕ → Type 0
IsConfiguredWord config m names None a code word = word ≡ codes "-"
IsConfiguredWord config m names (Some s) a code word =
    (origin : Option Origin) × IsOrigin config s names m a code origin
    × (word ≡ origin_word config.classes origin)

-- where an option comes from, by whether the reply must have it
abbrev pub IsSourceWord : Configuration → Seen → List (List ℕ) → Option Subnet → ℕ → Bool → ℕ
    → List ℕ → Type 0
IsSourceWord config m names s a true code word =
    IsRequiredWord config names s a (code == 51) code word
IsSourceWord config m names s a false code word = IsConfiguredWord config m names s a code word

-- whether the written reply has an option
abbrev pub room_word : Option (List ℕ) → List ℕ
room_word None = codes ": no room\n"
room_word (Some value) = codes "\n"

-- the line of an option of the reply to a message at an address; the written reply reads as the
-- second message
pub record IsSentLine (config : Configuration) (m : Seen) (e : Explanation) (a : ℕ) (reply : Seen)
    (item : Item) (line : List ℕ) : Type 0 where
  pub source : List ℕ
  pub from : IsSourceWord config m e.names (option_copied e.subnet) a item.obligatory item.code
      source
  pub is : line
      ≡ codes "option " ++ decimal item.code ++ codes " " ++ bytes_text item.value ++ codes " "
      ++ source ++ room_word (value_of item.code reply.options)

-- the lines of options, in order
abbrev pub AreOptionLines : (Item → List ℕ → Type 0) → List Item → List ℕ → Type 0
AreOptionLines Line [] text = text ≡ []
AreOptionLines Line (item ∷ items) text =
    (line : List ℕ) × (rest : List ℕ) × Line item line × AreOptionLines Line items rest
    × (text ≡ line ++ rest)

-- the address that the options and the boot fields of a reply are chosen for: the one it gives, or
-- the one its client has
abbrev pub options_address : PlanKind → ℕ → ℕ → ℕ
options_address kinds.InformAck yiaddr ciaddr = ciaddr
options_address other yiaddr ciaddr = yiaddr

-- the bytes of a planned reply
abbrev pub written : Plan → List ℕ
written plan = reply_text plan.reply.header (max plan.room 548) plan.reply.items

-- the lines of the options of a planned reply; the written reply may have no room for some of them
pub record AreOptionsOf (config : Configuration) (m : Seen) (e : Explanation) (plan : Plan)
    (text : List ℕ) : Type 0 where
  pub reply : Seen
  pub reads : Reads (written plan) reply
  pub lines : AreOptionLines
      (IsSentLine config m e (options_address plan.kind plan.yiaddr m.header.ciaddr) reply)
      plan.reply.items text

-- ---- the boot fields of a reply

-- the line of a boot field in a header; none if nothing gives it a value
abbrev pub boot_line : List ClassDef → Header → BootField → Option Origin → List ℕ
boot_line classes h field None = []
boot_line classes h field (Some origin) = field_line field h (origin_word classes (Some origin))

-- the line of a boot field of a planned reply to a message with these class names that a subnet
-- serves
abbrev pub IsBootLine : Configuration → Subnet → List (List ℕ) → Seen → Plan → BootField → List ℕ
    → Type 0
IsBootLine config s names m plan field line =
    (origin : Option Origin)
    × IsBootOrigin config s names m (options_address plan.kind plan.yiaddr m.header.ciaddr) field
    origin
    × (line ≡ boot_line config.classes plan.reply.header field origin)

-- the lines of all boot fields of that reply, in order
pub record AreFieldLines (config : Configuration) (s : Subnet) (names : List (List ℕ)) (m : Seen)
    (plan : Plan) (text : List ℕ) : Type 0 where
  pub siaddr : List ℕ
  pub siaddr_line : IsBootLine config s names m plan fields.Siaddr siaddr
  pub sname : List ℕ
  pub sname_line : IsBootLine config s names m plan fields.Sname sname
  pub file : List ℕ
  pub file_line : IsBootLine config s names m plan fields.File file
  pub is : text ≡ siaddr ++ sname ++ file

-- these lines, if a subnet serves the message; there are none if no subnet does
abbrev pub AreServedLines : Configuration → Option Subnet → List (List ℕ) → Seen → Plan → List ℕ
    → Type 0
AreServedLines config None names m plan text = text ≡ []
AreServedLines config (Some s) names m plan text = AreFieldLines config s names m plan text

-- these lines for a reply of a kind; a NAK has none
abbrev pub AreLinesOfKind : PlanKind → Configuration → Seen → Explanation → Plan → List ℕ → Type 0
AreLinesOfKind kinds.Nak config m e plan text = text ≡ []
AreLinesOfKind other config m e plan text =
    AreServedLines config (option_copied e.subnet) e.names m plan text

-- the lines of the boot fields of a planned reply to a message
abbrev pub AreBootLines : Configuration → Seen → Explanation → Plan → List ℕ → Type 0
AreBootLines config m e plan text = AreLinesOfKind plan.kind config m e plan text

-- ---- the end

-- the lines of how a message ends: the reply, its boot fields and its options, or why there is none
abbrev pub IsEndText : Configuration → Seen → Explanation → Result Plan Reason → List ℕ → Type 0
IsEndText config m e (Ok plan) text =
    (boot : List ℕ) × (options : List ℕ) × AreBootLines config m e plan boot
    × AreOptionsOf config m e plan options
    × (text ≡ ends_line plan.kind plan.yiaddr ++ boot ++ options)
IsEndText config m e (Err reason) text = text ≡ silence_line reason
