-- The header of a DHCP message (RFC 2131 section 2): its fields and their offsets, and what is
-- refused.
use Rattle.std.specs.Prelude.{ℕ, ◌+◌, List, [], ◌∷◌, ◌++◌, length, Result, Ok, Err, if◌then◌else◌, not, ◌==◌, ◌||◌, nat_lt, slice_index}
use Rattle.std.specs.List.{slice_range}
use Rattle.byteorder.specs.Endian.{big_number, big_bytes}
use Rattle.kd_wire.specs.declared.header.Header.{Header}
use Rattle.kd_wire.specs.declared.header.WireFault.{WireFault}
use Rattle.kd_wire.specs.declared.header.WireFault.TheVariants.{Short, Long, Cookie, BadOp}

-- the n bytes from offset i on
abbrev pub bytes_at : ℕ → ℕ → List ℕ → List ℕ
bytes_at i n bytes = slice_range bytes i (i + n)

-- the n-byte number at offset i, in network byte order
abbrev pub number_at : ℕ → ℕ → List ℕ → ℕ
number_at i n bytes = big_number n (bytes_at i n bytes)

-- the fields of a message, each read at its offset
unfoldable pub header_of : List ℕ → Header
header_of bytes = record {
  op = slice_index bytes 0;
  htype = slice_index bytes 1;
  hlen = slice_index bytes 2;
  hops = slice_index bytes 3;
  xid = number_at 4 4 bytes;
  secs = number_at 8 2 bytes;
  flags = number_at 10 2 bytes;
  ciaddr = number_at 12 4 bytes;
  yiaddr = number_at 16 4 bytes;
  siaddr = number_at 20 4 bytes;
  giaddr = number_at 24 4 bytes;
  chaddr = bytes_at 28 16 bytes;
  sname = bytes_at 44 64 bytes;
  file = bytes_at 108 128 bytes;
}

-- the cookie 99, 130, 83, 99 as a number
abbrev pub cookie : ℕ
cookie = 0x63825363

-- the header of a datagram, or the first fault: too short, too long, no cookie, an unknown op
unfoldable pub header_read : List ℕ → Result Header WireFault
header_read bytes =
    if nat_lt (length bytes) 240 then Err Short
    else if nat_lt 4096 (length bytes) then Err Long
    else if not (number_at 236 4 bytes == cookie) then Err Cookie
    else if slice_index bytes 0 == 1 || slice_index bytes 0 == 2 then Ok (header_of bytes)
    else Err BadOp

-- the number of each fault
abbrev pub fault_number : WireFault → ℕ
fault_number Short = 1
fault_number Long = 2
fault_number Cookie = 3
fault_number BadOp = 4

-- the bytes of a header and the cookie
unfoldable pub header_bytes : Header → List ℕ
header_bytes h =
    h.op ∷ h.htype ∷ h.hlen ∷ h.hops ∷ [] ++ big_bytes 4 h.xid ++ big_bytes 2 h.secs
    ++ big_bytes 2 h.flags
    ++ big_bytes 4 h.ciaddr ++ big_bytes 4 h.yiaddr ++ big_bytes 4 h.siaddr ++ big_bytes 4 h.giaddr
    ++ h.chaddr ++ h.sname ++ h.file ++ big_bytes 4 cookie
