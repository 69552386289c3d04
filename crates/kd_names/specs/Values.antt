-- The values of options as text, by their types (RFC 2132), and the line of an option that has a
-- name.
use Rattle.std.specs.Prelude.{ℕ, ◌+◌, ◌-◌, ◌*◌, ◌^◌, ◌%◌, ◌==◌, ◌&&◌, Bool, false, if◌then◌else◌, nat_le, nat_lt}
use Rattle.std.specs.Prelude.{List, [], ◌∷◌, ◌++◌, Option, Some, None, codes, count_by, decimal, drop, length, take}
use Rattle.std.specs.List.{flat_map}
use Rattle.hex.specs.Hex.{encode_lower}
use Rattle.kd_names.specs.Pieces.{are_names, are_routes, bytes_of_bits, is_end, labels_of, routes_of}
use Rattle.kd_names.specs.Table.{definition_of}
use Rattle.kd_names.specs.declared.kind.Kind.{Kind}
use Rattle.kd_names.specs.declared.kind.Kind.TheVariants.{Address, Addresses, Pairs, Flag, Byte, Short, Long, Signed, Shorts, Codes, MessageType, Text, Name, Names, Routes, Bytes}

-- ---- the form of a value

-- one or more groups of `size` bytes
abbrev pub is_grouped : ℕ → List ℕ → Bool
is_grouped size value = nat_lt 0 (length value) && length value % size == 0

-- one byte, from the least to the most
abbrev pub is_byte_within : ℕ → ℕ → List ℕ → Bool
is_byte_within least most (b ∷ []) = nat_le least b && nat_le b most
is_byte_within least most value = false

-- the value has the form of the type
abbrev pub fits_kind : Kind → List ℕ → Bool
fits_kind Address value = length value == 4
fits_kind Addresses value = is_grouped 4 value
fits_kind Pairs value = is_grouped 8 value
fits_kind Flag value = is_byte_within 0 1 value
fits_kind Byte value = length value == 1
fits_kind Short value = length value == 2
fits_kind Long value = length value == 4
fits_kind Signed value = length value == 4
fits_kind Shorts value = is_grouped 2 value
fits_kind Codes value = nat_lt 0 (length value)
fits_kind MessageType value = is_byte_within 1 8 value
fits_kind Text value = nat_lt 0 (length value)
fits_kind Name value = are_names value && count_by (λ b. b == 0) value == 1
fits_kind Names value = are_names value
fits_kind Routes value = are_routes value
fits_kind Bytes value = nat_lt 0 (length value)

-- ---- addresses and numbers

-- what comes between two addresses or numbers
abbrev pub comma : List ℕ
comma = codes ", "

-- the address of four bytes: the numbers in decimal, with dots between them
abbrev pub dotted_text : ℕ → ℕ → ℕ → ℕ → List ℕ
dotted_text a b c d =
    decimal a ++ codes "." ++ decimal b ++ codes "." ++ decimal c ++ codes "." ++ decimal d

-- the addresses in bytes, each after a comma
unfoldable pub addresses_behind : List ℕ → List ℕ
addresses_behind (a ∷ b ∷ c ∷ d ∷ rest) = comma ++ dotted_text a b c d ++ addresses_behind rest
addresses_behind other = []

-- the addresses in bytes, with commas between them
unfoldable pub addresses_text : List ℕ → List ℕ
addresses_text (a ∷ b ∷ c ∷ d ∷ rest) = dotted_text a b c d ++ addresses_behind rest
addresses_text other = []

-- 2-byte numbers, each after a comma
unfoldable pub shorts_behind : List ℕ → List ℕ
shorts_behind (a ∷ b ∷ rest) = comma ++ decimal (a * 256 + b) ++ shorts_behind rest
shorts_behind other = []

-- 2-byte numbers, with commas between them
unfoldable pub shorts_text : List ℕ → List ℕ
shorts_text (a ∷ b ∷ rest) = decimal (a * 256 + b) ++ shorts_behind rest
shorts_text other = []

-- a byte's number, after a comma
abbrev pub code_behind : ℕ → List ℕ
code_behind code = comma ++ decimal code

-- the numbers of bytes, with commas between them
unfoldable pub codes_text : List ℕ → List ℕ
codes_text [] = []
codes_text (code ∷ rest) = decimal code ++ flat_map code_behind rest

-- the number of one, two or four bytes, highest byte first
unfoldable pub number_of_bytes : List ℕ → ℕ
number_of_bytes (a ∷ []) = a
number_of_bytes (a ∷ b ∷ []) = a * 256 + b
number_of_bytes (a ∷ b ∷ c ∷ d ∷ []) = ((a * 256 + b) * 256 + c) * 256 + d
number_of_bytes other = 0

-- a 4-byte number in two's complement
unfoldable pub signed_text : ℕ → List ℕ
signed_text n = if nat_lt n (2 ^ 31) then decimal n else codes "-" ++ decimal (2 ^ 32 - n)

-- ---- flags, message types and text

-- a flag
abbrev pub flag_text : ℕ → List ℕ
flag_text flag = if flag == 0 then codes "false" else codes "true"

-- the name of a message type (RFC 2131 section 2), by its number from 1 to 8 (RFC 2132 section 9.6)
unfoldable pub message_type_word : ℕ → List ℕ
message_type_word number =
    if number == 1 then codes "DISCOVER"
    else (if number == 2 then codes "OFFER"
    else (if number == 3 then codes "REQUEST"
    else (if number == 4 then codes "DECLINE"
    else (if number == 5 then codes "ACK"
    else (if number == 6 then codes "NAK"
    else (if number == 7 then codes "RELEASE"
    else codes "INFORM"))))))

-- a message type: its number and its name
abbrev pub message_type_text : ℕ → List ℕ
message_type_text number = decimal number ++ codes " " ++ message_type_word number

-- a byte of text: a quotation mark and a backslash after a backslash, any other printable byte as
-- it is, and the rest as `\x` and two hexadecimal digits
unfoldable pub sign_text : ℕ → List ℕ
sign_text b =
    if b == 34 then codes "\\\""
    else (if b == 92 then codes "\\\\"
    else (if nat_le 32 b && nat_le b 126 then b ∷ []
    else codes "\\x" ++ encode_lower (b ∷ [])))

-- text in quotation marks
unfoldable pub quoted_text : List ℕ → List ℕ
quoted_text value = codes "\"" ++ flat_map sign_text value ++ codes "\""

-- ---- domain names and routes

-- what stands behind a piece: nothing if it is the last
abbrev pub comma_before : List (List ℕ) → List ℕ
comma_before [] = []
comma_before (piece ∷ pieces) = comma

-- labels as text: a dot behind each, and a comma between names
abbrev pub names_text : List (List ℕ) → List ℕ
names_text [] = []
names_text (label ∷ labels) =
    (if is_end label then comma_before labels else flat_map sign_text (drop 1 label) ++ codes ".")
    ++ names_text labels

-- the address of a prefix, of whose bytes at most four are given
abbrev pub prefix_address : List ℕ → List ℕ
prefix_address [] = dotted_text 0 0 0 0
prefix_address (a ∷ []) = dotted_text a 0 0 0
prefix_address (a ∷ b ∷ []) = dotted_text a b 0 0
prefix_address (a ∷ b ∷ c ∷ []) = dotted_text a b c 0
prefix_address (a ∷ b ∷ c ∷ d ∷ more) = dotted_text a b c d

-- a route as text: the prefix, a dash, the router
abbrev pub route_text : List ℕ → List ℕ
route_text [] = []
route_text (bits ∷ bytes) =
    prefix_address (take (bytes_of_bits bits) bytes) ++ codes "/" ++ decimal bits ++ codes " - "
    ++ addresses_text (drop (bytes_of_bits bits) bytes)

-- routes as text, with commas between them
abbrev pub routes_text : List (List ℕ) → List ℕ
routes_text [] = []
routes_text (route ∷ routes) = route_text route ++ comma_before routes ++ routes_text routes

-- ---- the line

-- a value as its type is written
abbrev pub text_by_kind : Kind → List ℕ → List ℕ
text_by_kind Address value = addresses_text value
text_by_kind Addresses value = addresses_text value
text_by_kind Pairs value = addresses_text value
text_by_kind Flag value = flag_text (number_of_bytes value)
text_by_kind Byte value = decimal (number_of_bytes value)
text_by_kind Short value = decimal (number_of_bytes value)
text_by_kind Long value = decimal (number_of_bytes value)
text_by_kind Signed value = signed_text (number_of_bytes value)
text_by_kind Shorts value = shorts_text value
text_by_kind Codes value = codes_text value
text_by_kind MessageType value = message_type_text (number_of_bytes value)
text_by_kind Text value = quoted_text value
text_by_kind Name value = names_text (labels_of value)
text_by_kind Names value = names_text (labels_of value)
text_by_kind Routes value = routes_text (routes_of value)
text_by_kind Bytes value = encode_lower value

-- a name and a value of its type
unfoldable pub named_value : List ℕ → Kind → List ℕ → List ℕ
named_value name kind value =
    codes "  " ++ name ++ codes " " ++ text_by_kind kind value ++ codes "\n"

-- the line of an option with this name and type, if the value has the form of the type
abbrev pub line_by : Option (List ℕ × Kind) → List ℕ → List ℕ
line_by None value = []
line_by (Some definition) value =
    if fits_kind definition.1 value then named_value definition.0 definition.1 value else []

-- the line of an option that has a name and a value of the form of its type, with its line feed;
-- nothing for any other option
abbrev pub named_text : ℕ → List ℕ → List ℕ
named_text code value = line_by (definition_of code) value
