-- The value of an option as people write it, by its type (Kea Administrator Reference Manual,
-- option data with `csv-format`; the types are those of kd_names).
use Rattle.std.specs.Prelude.{ℕ, ◌%◌, ◌==◌, if◌then◌else◌, List, Option, Some, None, length, option_and_then}
use Rattle.kd_expr.specs.Lexing.{address_read}
use Rattle.kd_names.specs.declared.kind.Kind.{Kind}
use Rattle.kd_names.specs.declared.kind.Kind.TheVariants.{Address, Addresses, Pairs, Flag, Byte, Short, Long, Signed, Shorts, Codes, MessageType, Text, Name, Names, Routes, Bytes}
use Rattle.kd_values.specs.Parts.{trimmed, values_between_commas}
use Rattle.kd_values.specs.Numbers.{one_byte_spelled, two_bytes_spelled, four_bytes_spelled, signed_spelled}
use Rattle.kd_values.specs.Signs.{flag_spelled, message_type_spelled, signs_read, if_any}
use Rattle.kd_values.specs.Names.{name_spelled, route_spelled}
use Rattle.kd_values.specs.Digits.{hexadecimal_spelled}

-- one value of a type, from a text without blanks around it
abbrev pub one_spelled : Kind → List ℕ → Option (List ℕ)
one_spelled Address text = address_read text
one_spelled Addresses text = address_read text
one_spelled Pairs text = address_read text
one_spelled Flag text = flag_spelled text
one_spelled Byte text = one_byte_spelled text
one_spelled Short text = two_bytes_spelled text
one_spelled Long text = four_bytes_spelled text
one_spelled Signed text = signed_spelled text
one_spelled Shorts text = two_bytes_spelled text
one_spelled Codes text = one_byte_spelled text
one_spelled MessageType text = message_type_spelled text
one_spelled Text text = option_and_then if_any (signs_read text)
one_spelled Name text = name_spelled text
one_spelled Names text = name_spelled text
one_spelled Routes text = route_spelled text
one_spelled Bytes text = hexadecimal_spelled text

-- the addresses of pairs: an even number of them
abbrev pub if_pairs : List ℕ → Option (List ℕ)
if_pairs value = if length value % 8 == 0 then Some value else None

-- the value of an option of a type
abbrev pub data_spelled : Kind → List ℕ → Option (List ℕ)
data_spelled Address text = one_spelled Address (trimmed text)
data_spelled Addresses text = values_between_commas (one_spelled Addresses) text
data_spelled Pairs text = option_and_then if_pairs (values_between_commas (one_spelled Pairs) text)
data_spelled Flag text = one_spelled Flag (trimmed text)
data_spelled Byte text = one_spelled Byte (trimmed text)
data_spelled Short text = one_spelled Short (trimmed text)
data_spelled Long text = one_spelled Long (trimmed text)
data_spelled Signed text = one_spelled Signed (trimmed text)
data_spelled Shorts text = values_between_commas (one_spelled Shorts) text
data_spelled Codes text = values_between_commas (one_spelled Codes) text
data_spelled MessageType text = one_spelled MessageType (trimmed text)
data_spelled Text text = one_spelled Text (trimmed text)
data_spelled Name text = one_spelled Name (trimmed text)
data_spelled Names text = values_between_commas (one_spelled Names) text
data_spelled Routes text = values_between_commas (one_spelled Routes) text
data_spelled Bytes text = one_spelled Bytes (trimmed text)
