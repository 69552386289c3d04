-- What a reply must be (RFC 2131 section 2, RFC 2132 sections 9.1, 9.6, 9.7), and the message that
-- its text reads back as (RFC 3396 section 7), for the law of replies. Also the sizes of every
-- message.
use Rattle.std.specs.Prelude.{◌≡◌, ◌≢◌, ◌⊎◌, ℕ, ◌^◌, ◌<◌, ◌≤◌, true, nat_eq, List, [], ◌∷◌, length, map, IfSome, IsSomeAnd}
use Rattle.std.specs.List.{AllByRecursion, IsDistinct}
use Rattle.std.specs.Map.{lookup}
use Rattle.kd_wire.specs.Area.{Piece}
use Rattle.kd_wire.specs.declared.header.Header.{Header}
use Rattle.kd_options.specs.Joined.{value_of}
use Rattle.kd_options.specs.Message.{Seen, AreBytes, IsMessage}
use Rattle.kd_options.specs.Options.{IsAddressValue, IsType}
use Rattle.kd_options.specs.RelayWalk.{relay_list}
use Rattle.kd_options.specs.Reply.{kept, reply_text}
use Rattle.kd_options.specs.declared.item.Item.{Item}

-- a field of n bytes
pub record IsField (n : ℕ) (bytes : List ℕ) : Type 0 where
  pub size : length bytes ≡ n
  pub bytes_are : AreBytes bytes

-- a header's fields have their ranges and lengths: numbers of one, two and four bytes, and byte
-- fields
pub record IsHeader (header : Header) : Type 0 where
  pub op : header.op < 2 ^ 8
  pub htype : header.htype < 2 ^ 8
  pub hlen : header.hlen < 2 ^ 8
  pub hops : header.hops < 2 ^ 8
  pub xid : header.xid < 2 ^ 32
  pub secs : header.secs < 2 ^ 16
  pub flags : header.flags < 2 ^ 16
  pub ciaddr : header.ciaddr < 2 ^ 32
  pub yiaddr : header.yiaddr < 2 ^ 32
  pub siaddr : header.siaddr < 2 ^ 32
  pub giaddr : header.giaddr < 2 ^ 32
  pub chaddr : IsField 16 header.chaddr
  pub sname : IsField 64 header.sname
  pub file : IsField 128 header.file

-- an item of a reply: it is not option 52, it is an address if it is option 50 or 54, and its value
-- is bytes; its type already says that its code is from 1 to 254
pub record IsItem (item : Item) : Type 0 where
  pub plain : item.code ≢ 52
  pub requested : item.code ≡ 50 → IsAddressValue item.value
  pub server : item.code ≡ 54 → IsAddressValue item.value
  pub bytes_are : AreBytes item.value

-- the first item is the message type, and it is obligatory
abbrev pub BeginsWithType : List Item → Type 0
BeginsWithType [] = ⊥
BeginsWithType (item ∷ items) = (item.code ≡ 53) × (item.obligatory ≡ true) × IsType item.value

-- the codes of items
abbrev pub item_codes : List Item → List ℕ
item_codes items = map (λ item. item.code) items

-- a reply and its room: a header with op 1 or 2, items with distinct codes, the message type first,
-- and the room that a datagram of 576 to 1,500 bytes leaves after 28 for IP and UDP
pub record IsReply (header : Header) (room : ℕ) (items : List Item) : Type 0 where
  pub fields : IsHeader header
  pub op : (header.op ≡ 1) ⊎ (header.op ≡ 2)
  pub codes : IsDistinct nat_eq (item_codes items)
  pub each : AllByRecursion IsItem items
  pub kind : BeginsWithType items
  pub least : 548 ≤ room
  pub most : room ≤ 1472

-- items as options: each code with its whole value
abbrev pub item_options : List Item → List Piece
item_options items = map (λ item. (item.code, item.value)) items

-- what a reply's text reads back as: the reply's header, the text's length, and the kept items
abbrev pub read_back : Header → ℕ → List Item → Seen
read_back header room items = record {
  header = header;
  len = length (reply_text header room items);
  options = item_options (kept room items);
}

-- the sizes of a message: each field of its header has its own size, the datagram has at most 4,096
-- bytes, its type is one byte, an option has at most 4,096 bytes and a sub-option at most 255
pub record HasSizes (message : Seen) : Type 0 where
  pub fields : IsHeader message.header
  pub datagram : message.len ≤ 4096
  pub kind : IsSomeAnd (value_of 53 message.options) IsType
  pub option : (code : ℕ) → IfSome (value_of code message.options) (λ value. length value ≤ 4096)
  pub sub_option : (code : ℕ)
      → IfSome (lookup (nat_eq code) (relay_list message.options)) (λ value. length value ≤ 255)

-- every message has these sizes
abbrev pub MessagesHaveSizes : Type 0
MessagesHaveSizes = (message : Seen) → IsMessage message → HasSizes message
