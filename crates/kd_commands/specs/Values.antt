-- The values of options, by their texts: numbers, ports, IPv4 addresses as numbers in host order,
-- and hardware addresses.
use Rattle.std.specs.Prelude.{◌&&◌, ◌==◌, ◌+◌, ◌*◌, ◌^◌, ℕ, Bool, List, [], ◌∷◌, length, nat_lt, nat_le, Option, Some, None, if◌then◌else◌, option_and_then, option_map}
use Rattle.std.specs.Char.{digit_value}
use Rattle.kd_wire.specs.Steps.{◌>>=◌}
use Rattle.std.specs.Int.{from_be_bytes, w32}
use Rattle.std.specs.Str.{all_ascii_digits}
use Rattle.std.specs.Str.Parse.{digits_value}
use Rattle.clap.specs.Words.{Text}
use Rattle.kd_expr.specs.Lexing as lexing

-- 1 to 20 decimal digits
abbrev pub are_digits : Text → Bool
are_digits text = nat_lt 0 (length text) && (nat_le (length text) 20 && all_ascii_digits text)

-- the number in a text, if it is one: 1 to 20 decimal digits, and below 2 ^ 64
abbrev pub number_of : Text → Option ℕ
number_of text =
    if are_digits text && nat_lt (digits_value 10 text) (2 ^ 64) then Some
    (digits_value 10 text) else None

-- the port in a text, if it is one: a number from 1 to 65,535
abbrev pub port_of : Text → Option ℕ
port_of text =
    option_and_then (λ port. if nat_lt 0 port && nat_lt port (2 ^ 16) then Some port else None)
    (number_of text)

-- the line number of an event in a text, if it is one: a number from 1 to 1,000,000
abbrev pub event_line_of : Text → Option ℕ
event_line_of text =
    option_and_then (λ line. if nat_lt 0 line && nat_le line 1000000 then Some line else None)
    (number_of text)

-- the address in a text, if it is one: four decimal numbers with dots between them, each at most
-- 255 and of one to three digits
abbrev pub address_of : Text → Option ℕ
address_of text = option_map (from_be_bytes w32) (lexing.address_read text)

-- the address of a host in a text, if it is one: an address that is not 0.0.0.0
abbrev pub host_address_of : Text → Option ℕ
host_address_of text =
    option_and_then (λ address. if address == 0 then None else Some address) (address_of text)

-- the number of a hexadecimal digit, in either case
abbrev pub digit_spelled : ℕ → Option ℕ
digit_spelled digit = if nat_lt (digit_value digit) 16 then Some (digit_value digit) else None

-- the byte of two hexadecimal digits
abbrev pub byte_spelled : ℕ → ℕ → Option ℕ
byte_spelled high low = do
  sixteens ← digit_spelled high
  ones ← digit_spelled low
  Some (sixteens * 16 + ones)

-- the bytes of a text that has `:` and two hexadecimal digits for each
unfoldable pub bytes_behind : Text → Option (List ℕ)
bytes_behind [] = Some []
bytes_behind (colon ∷ []) = None
bytes_behind (colon ∷ high ∷ []) = None
bytes_behind (colon ∷ high ∷ low ∷ behind) =
    if colon == 58 then (do
      byte ← byte_spelled high low
      bytes ← bytes_behind behind
      Some (byte ∷ bytes)) else None

-- the hardware address in a text, if it is one: 1 to 16 bytes, two hexadecimal digits each with `:`
-- between them, so that with `:` before it the text has `:` and two digits for each byte
abbrev pub hardware_of : Text → Option (List ℕ)
hardware_of text = do
  bytes ← bytes_behind (58 ∷ text)
  if nat_le (length bytes) 16 then Some bytes else None

-- what is read from a text, or a standard value if no text is given
abbrev pub read_or : {A : Type 0} → (Text → Option A) → A → Option Text → Option A
read_or read standard None = Some standard
read_or read standard (Some text) = read text

-- what is read from an optional text, if it is given
abbrev pub read_if_given : {A : Type 0} → (Text → Option A) → Option Text → Option (Option A)
read_if_given read None = Some None
read_if_given read (Some text) = option_map (λ a. Some a) (read text)
