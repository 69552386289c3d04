-- The value of an option that a configuration defines (Kea Administrator Reference Manual,
-- `option-def` with `record-types` and `array`): one part between commas for each field.
use Rattle.std.specs.Prelude.{ℕ, ◌-◌, ◌==◌, ◌&&◌, Bool, false, not, nat_lt, if◌then◌else◌}
use Rattle.std.specs.Prelude.{List, [], ◌∷◌, ◌++◌, length, replicate, Option, Some, None, option_and_then}
use Rattle.std.specs.List.{onto_first}
use Rattle.kd_expr.specs.Lexing.{address_read}
use Rattle.kd_wire.specs.Steps.{◌>>=◌}
use Rattle.kd_values.specs.declared.field_type.FieldType.{FieldType}
use Rattle.kd_values.specs.declared.field_type.FieldType.TheVariants.{Flag, Uint8, Uint16, Uint32, Int8, Int16, Int32, Address, Text, Name, Bytes, Tuple}
use Rattle.kd_values.specs.Digits.{hexadecimal_spelled}
use Rattle.kd_values.specs.Names.{name_spelled}
use Rattle.kd_values.specs.Numbers.{one_byte_spelled, two_bytes_spelled, four_bytes_spelled, signed_byte_spelled, signed_short_spelled, signed_spelled}
use Rattle.kd_values.specs.Parts.{trimmed}
use Rattle.kd_values.specs.Signs.{flag_spelled, if_any, signs_read}

-- a text of at most 255 bytes after its length
abbrev pub tuple_spelled : List ℕ → Option (List ℕ)
tuple_spelled text = do
  signs ← option_and_then if_any (signs_read text)
  if nat_lt (length signs) 256 then Some (length signs ∷ signs) else None

-- the value of a field, from a part without blanks around it
abbrev pub field_spelled : FieldType → List ℕ → Option (List ℕ)
field_spelled Flag part = flag_spelled part
field_spelled Uint8 part = one_byte_spelled part
field_spelled Uint16 part = two_bytes_spelled part
field_spelled Uint32 part = four_bytes_spelled part
field_spelled Int8 part = signed_byte_spelled part
field_spelled Int16 part = signed_short_spelled part
field_spelled Int32 part = signed_spelled part
field_spelled Address part = address_read part
field_spelled Text part = option_and_then if_any (signs_read part)
field_spelled Name part = name_spelled part
field_spelled Bytes part = hexadecimal_spelled part
field_spelled Tuple part = tuple_spelled part

-- the parts of a text between the commas that have no backslash right before them; the text itself
-- may have one right before it
abbrev pub parts_behind : Bool → List ℕ → List (List ℕ)
parts_behind escaped [] = [] ∷ []
parts_behind escaped (b ∷ text) =
    if b == 44 && not escaped then [] ∷ parts_behind false text
    else onto_first b (parts_behind (b == 92) text)

-- the last of one or more fields
abbrev pub last_field : FieldType → List FieldType → FieldType
last_field field [] = field
last_field field (second ∷ fields) = last_field second fields

-- the types of as many parts: those of the fields, and that of the last one once more for each
-- further part, if it repeats
abbrev pub types_of_parts : FieldType → List FieldType → Bool → ℕ → List FieldType
types_of_parts field fields repeats parts =
    (field ∷ fields)
    ++ (if repeats then replicate (parts - length (field ∷ fields)) (last_field field fields) else [])

-- the values of parts one after another, each of its own type, if there is one type for each part
abbrev pub values_by_type : List FieldType → List (List ℕ) → Option (List ℕ)
values_by_type [] [] = Some []
values_by_type (field ∷ fields) (part ∷ parts) = do
  first ← field_spelled field (trimmed part)
  others ← values_by_type fields parts
  Some (first ++ others)
values_by_type fields parts = None

-- the value of parts for one or more fields
abbrev pub parts_spelled : FieldType → List FieldType → Bool → List (List ℕ) → Option (List ℕ)
parts_spelled field fields repeats parts =
    values_by_type (types_of_parts field fields repeats (length parts)) parts

-- no bytes, if there is no text
abbrev pub nothing_spelled : List ℕ → Option (List ℕ)
nothing_spelled [] = Some []
nothing_spelled (b ∷ text) = None

-- the value of an option with these fields; without fields there is no text
abbrev pub fields_spelled : List FieldType → Bool → List ℕ → Option (List ℕ)
fields_spelled [] repeats text = nothing_spelled text
fields_spelled (field ∷ fields) repeats text =
    parts_spelled field fields repeats (parts_behind false text)
