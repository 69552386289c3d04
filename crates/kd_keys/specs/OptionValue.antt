-- The value of an option in a configuration of Kea's: text by the types of its definition or by its
-- standard type; or bytes, in hexadecimal or in quotation marks.
use Rattle.std.specs.Prelude.{ℕ, ◌==◌, Bool, true, false, not, ◌||◌, nat_le, List, [], ◌∷◌, length, Option, Some, None, is_some, if◌then◌else◌}
use Rattle.serde_json.specs.Data.{Data}
use Rattle.serde_json.specs.Find.{as_bool, as_str}
use Rattle.kd_fields.specs.Steps.{must, only_if}
use Rattle.kd_names.specs.Table.{kind_by_code}
use Rattle.kd_names.specs.declared.kind.Kind.{Kind}
use Rattle.kd_names.specs.declared.kind.Kind.TheVariants as kinds
use Rattle.kd_values.specs.Fields.{fields_spelled}
use Rattle.kd_values.specs.Spelled.{data_spelled}
use Rattle.kd_values.specs.declared.field_type.FieldType.{FieldType}
use Rattle.kd_values.specs.declared.field_type.FieldType.TheVariants as types
use Rattle.kd_keys.specs.Definitions.{is_dhcp4}
use Rattle.kd_keys.specs.Quoted.{bytes_written}
use Rattle.kd_keys.specs.Values.{has_whole_bytes, text_otherwise}
use Rattle.kd_keys.specs.declared.definition.DefinedOption.{DefinedOption}
use Rattle.kd_wire.specs.Steps.{◌>>=◌}

-- the code of `vivso-suboptions`, whose value consists of the options of vendors (RFC 3925 section 4)
abbrev pub vivso_code : ℕ
vivso_code = 125

-- the standard type of the option of a space with a code
abbrev pub standard_type : List ℕ → ℕ → Option Kind
standard_type space code = if is_dhcp4 space then kind_by_code code else None

-- the standard type by which text is read
abbrev pub text_kind : List ℕ → ℕ → Option Kind
text_kind space code = if code == vivso_code then None else standard_type space code

-- an option has a type: it is defined, or a standard one
abbrev pub has_type : Option DefinedOption → Option Kind → Bool
has_type (Some it) kind = true
has_type None kind = is_some kind

-- the data is text: as `csv-format` says, or else if this is usual
abbrev pub is_text_given : Bool → Option Data → Option Bool
is_text_given usual None = Some usual
is_text_given usual (Some d) = as_bool d

-- a value of this type is written in hexadecimal
abbrev pub is_hexadecimal : Kind → Bool
is_hexadecimal kinds.Bytes = true
is_hexadecimal kind = false

-- the value of a type that a text gives: at most 1,024 bytes
unfoldable pub text_data : Kind → Data → Option (List ℕ)
text_data kind d = do
  text ← as_str d
  _ ← must (not (is_hexadecimal kind) || has_whole_bytes text)
  value ← data_spelled kind text
  only_if (nat_le (length value) 1024) value

-- the value that data gives as text of a standard type; no data gives no bytes
abbrev pub data_as_text : Option Kind → Option Data → Option (List ℕ)
data_as_text None value = None
data_as_text (Some kind) None = None
data_as_text (Some kind) (Some d) = text_data kind d

-- fields are bytes alone, which are written in hexadecimal
abbrev pub are_bytes : List FieldType → Bool
are_bytes (types.Bytes ∷ fields) = true
are_bytes fields = false

-- the value that data gives as text for the fields of a definition; no data is an empty text
unfoldable pub fields_data : DefinedOption → Option Data → Option (List ℕ)
fields_data it value = do
  fields ← it.fields
  text ← text_otherwise [] value
  _ ← must (not (are_bytes fields) || has_whole_bytes text)
  bytes ← fields_spelled fields it.repeats text
  only_if (nat_le (length bytes) 1024) bytes

-- the value that data gives as text
abbrev pub typed_data : Option DefinedOption → Option Kind → Option Data → Option (List ℕ)
typed_data (Some it) kind value = fields_data it value
typed_data None kind value = data_as_text kind value

-- the value that data gives in hexadecimal or in quotation marks; no data gives no bytes
abbrev pub hex_data : Option Data → Option (List ℕ)
hex_data None = Some []
hex_data (Some d) = bytes_written 1024 d

-- the value that data gives, in one way or the other
abbrev pub data_by : Bool → Option DefinedOption → Option Kind → Option Data → Option (List ℕ)
data_by true it kind value = typed_data it kind value
data_by false it kind value = hex_data value
