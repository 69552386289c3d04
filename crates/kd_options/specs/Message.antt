-- A readable DHCP message (RFC 2131 section 2, RFC 2132, RFC 3396), and the first fault of bytes
-- that are not one.
use Rattle.std.specs.Prelude.{◌≡◌, ℕ, ◌+◌, ◌<◌, List, length, take, min, Ok, Err, Some, ◌⊎◌, true}
use Rattle.std.specs.List.{AllByRecursion}
use Rattle.kd_wire.specs.Area.{Piece, IsArea, IsCutAt}
use Rattle.kd_wire.specs.Header.{header_read}
use Rattle.kd_wire.specs.declared.header.Header.{Header}
use Rattle.kd_options.specs.Joined.{HasOptions, IsAreaIf, options_of, options_field, file_field, sname_field, uses_file, uses_sname, value_of}
use Rattle.kd_options.specs.Options.{IsReadable, option_fault}
use Rattle.kd_options.specs.declared.fault.ReadFault.{ReadFault}
use Rattle.kd_options.specs.declared.fault.ReadFault.TheVariants as faults

-- what contracts see of a message: its header, the datagram's length, and its options in order of
-- first appearance
pub record Seen : Type 0 where
  pub header : Header
  pub len : ℕ
  pub options : List Piece

-- bytes read as a message
pub record Reads (bytes : List ℕ) (m : Seen) : Type 0 where
  pub header : header_read bytes ≡ Ok m.header
  pub len : m.len ≡ length bytes
  pub options : HasOptions bytes m.options
  pub readable : IsReadable m.options

-- bytes: numbers from 0 to 255
abbrev pub AreBytes : List ℕ → Type 0
AreBytes bytes = AllByRecursion (λ b. b < 256) bytes

-- a message: some datagram reads as it
pub record IsMessage (m : Seen) : Type 0 where
  pub datagram : List ℕ
  pub bytes_are : AreBytes datagram
  pub reads : Reads datagram m

-- an area that begins at offset `start` is cut at this offset, both counted from the datagram's
-- first byte
abbrev pub IsCutIn : ℕ → List ℕ → ℕ → Type 0
IsCutIn start area at = (k : ℕ) × (at ≡ start + k) × IsCutAt area k

-- the file field is the first area that is cut: it is in use, and the options field is whole
pub record IsCutInFile (bytes : List ℕ) (at : ℕ) : Type 0 where
  pub field : List Piece
  pub field_is : IsArea (options_field bytes) field
  pub used : uses_file (value_of 52 (options_of field)) ≡ true
  pub cut : IsCutIn 108 (file_field bytes) at

-- the sname field is the first area that is cut: it is in use, and the areas before it are whole
pub record IsCutInSname (bytes : List ℕ) (at : ℕ) : Type 0 where
  pub field : List Piece
  pub file : List Piece
  pub field_is : IsArea (options_field bytes) field
  pub file_is : IsAreaIf (uses_file (value_of 52 (options_of field))) (file_field bytes) file
  pub used : uses_sname (value_of 52 (options_of field)) ≡ true
  pub cut : IsCutIn 44 (sname_field bytes) at

-- where the first area that is cut, in reading order, is cut
abbrev pub IsFirstCut : List ℕ → ℕ → Type 0
IsFirstCut bytes at =
    IsCutIn 240 (options_field bytes) at ⊎ (IsCutInFile bytes at ⊎ IsCutInSname bytes at)

-- bytes whose header and areas can be read, and whose options have this first fault
pub record HasOptionFault (bytes : List ℕ) (fault : ReadFault) : Type 0 where
  pub header : Header
  pub options : List Piece
  pub header_is : header_read bytes ≡ Ok header
  pub options_are : HasOptions bytes options
  pub first : option_fault options ≡ Some fault

-- the first fault of a datagram, in the order header, areas, options; out of memory can come only
-- after the header is read
abbrev pub IsFirstFault : ReadFault → List ℕ → Type 0
IsFirstFault (faults.Header fault) bytes = header_read bytes ≡ Err fault
IsFirstFault (faults.Cut at) bytes =
    ((header : Header) × (header_read bytes ≡ Ok header)) × IsFirstCut bytes at
IsFirstFault faults.Memory bytes = (header : Header) × (header_read bytes ≡ Ok header)
IsFirstFault fault bytes = HasOptionFault bytes fault

-- the hardware address: the first hlen bytes of chaddr, at most 16
abbrev pub mac_of : Header → List ℕ
mac_of header = take (min header.hlen 16) header.chaddr
