-- What `show` prints of a datagram: its header (RFC 2131 section 2), its joined options and the
-- sub-options of its relay information (RFC 3046), one line each.
use Rattle.std.specs.Prelude.{ℕ, ◌++◌, Bool, if◌then◌else◌, List, [], ◌∷◌, codes}
use Rattle.std.specs.Fmt.{decimal}
use Rattle.std.specs.List.{flat_map}
use Rattle.byteorder.specs.Endian.{big_bytes}
use Rattle.kd_wire.specs.Area.{Piece}
use Rattle.kd_wire.specs.declared.header.Header.{Header}
use Rattle.kd_options.specs.Joined.{value_of}
use Rattle.kd_options.specs.Message.{Seen, mac_of}
use Rattle.kd_options.specs.Relay.{firsts}
use Rattle.kd_options.specs.RelayWalk.{relay_list}
use Rattle.kd_machine.specs.Parts.{type_in}
use Rattle.kd_names.specs.Values.{named_text}
use Rattle.kd_text.specs.Text.{address_text, bytes_text}

-- the end of a line
abbrev pub line_feed : List ℕ
line_feed = 10 ∷ []

-- the datagram's length
abbrev pub len_line : ℕ → List ℕ
len_line len = codes "len " ++ decimal len ++ line_feed

-- the numbers at the start of the header
abbrev pub numbers_line : Header → List ℕ
numbers_line h =
    (codes "op " ++ decimal h.op) ++ (codes " htype " ++ decimal h.htype)
    ++ (codes " hlen " ++ decimal h.hlen)
    ++ (codes " hops " ++ decimal h.hops) ++ (codes " xid " ++ bytes_text (big_bytes 4 h.xid))
    ++ (codes " secs " ++ decimal h.secs) ++ (codes " flags " ++ bytes_text (big_bytes 2 h.flags))
    ++ line_feed

-- the header's addresses
abbrev pub addresses_line : Header → List ℕ
addresses_line h =
    (codes "ciaddr " ++ address_text h.ciaddr) ++ (codes " yiaddr " ++ address_text h.yiaddr)
    ++ (codes " siaddr " ++ address_text h.siaddr) ++ (codes " giaddr " ++ address_text h.giaddr)
    ++ line_feed

-- the hardware address
abbrev pub mac_line : Header → List ℕ
mac_line h = (codes "mac " ++ bytes_text (mac_of h)) ++ line_feed

-- the message type
abbrev pub type_line : List Piece → List ℕ
type_line options = codes "type " ++ decimal (type_in (value_of 53 options)) ++ line_feed

-- the lines of the header and the message type
unfoldable pub header_lines : Seen → List ℕ
header_lines m =
    len_line m.len ++ numbers_line m.header ++ addresses_line m.header ++ mac_line m.header
    ++ type_line m.options

-- a word, a code and its value
abbrev pub entry_line : List ℕ → Piece → List ℕ
entry_line word p = (word ++ decimal p.0) ++ (codes " " ++ bytes_text p.1) ++ line_feed

-- an option
abbrev pub option_line : Piece → List ℕ
option_line p = entry_line (codes "option ") p

-- the lines of an option: its own line and, with names, the line of its name, if it has one
abbrev pub option_lines : Bool → Piece → List ℕ
option_lines names p = option_line p ++ (if names then named_text p.0 p.1 else [])

-- a sub-option of the relay information
abbrev pub relay_line : Piece → List ℕ
relay_line p = entry_line (codes "relay ") p

-- all lines of a message, with or without names: options and sub-options in order of first
-- appearance, each code once
abbrev pub show_text : Bool → Seen → List ℕ
show_text names m =
    header_lines m ++ flat_map (option_lines names) m.options
    ++ flat_map relay_line (firsts (relay_list m.options))
