-- The options that a configuration of Kea's defines (`option-def`): a code and a name in a space, the
-- types of the fields of the value, and the space of the options in it.
use Rattle.std.specs.Prelude.{ℕ, ◌==◌, Bool, true, false, not, ◌&&◌, ◌||◌, List, [], ◌∷◌, ◌++◌, bytes_eq, codes, Option, Some, None, is_some, nat_le, option_map, if◌then◌else◌}
use Rattle.std.specs.List.{find, list_any, slice_split}
use Rattle.std.specs.Map.{lookup}
use Rattle.memchr.specs.Find.{is_byte}
use Rattle.serde_json.specs.Data.{Data}
use Rattle.serde_json.specs.Find.{as_str, get}
use Rattle.kd_fields.specs.Lists.{list_of}
use Rattle.kd_fields.specs.Steps.{must, only_if}
use Rattle.kd_fields.specs.Values.{number_within}
use Rattle.kd_names.specs.Table.{kind_by_code, option_by_name}
use Rattle.kd_names.specs.declared.kind.Kind.{Kind}
use Rattle.kd_values.specs.Parts.{trimmed}
use Rattle.kd_values.specs.declared.field_type.FieldType.{FieldType}
use Rattle.kd_values.specs.declared.field_type.FieldType.TheVariants as types
use Rattle.kd_keys.specs.Keys.{keys_are_read}
use Rattle.kd_keys.specs.Tables.{definition_keys}
use Rattle.kd_keys.specs.Values.{flag_given, text_otherwise}
use Rattle.kd_keys.specs.declared.definition.DefinedOption.{DefinedOption}
use Rattle.kd_wire.specs.Steps.{◌>>=◌}

-- the space of the options of a message
abbrev pub is_dhcp4 : List ℕ → Bool
is_dhcp4 space = bytes_eq space (codes "dhcp4")

-- the types of fields, by Kea's names, whose values are read from text
abbrev pub field_types : List (List ℕ × FieldType)
field_types =
    (codes "boolean", types.Flag)
    ∷ (codes "uint8", types.Uint8)
    ∷ (codes "uint16", types.Uint16)
    ∷ (codes "uint32", types.Uint32)
    ∷ (codes "int8", types.Int8)
    ∷ (codes "int16", types.Int16)
    ∷ (codes "int32", types.Int32)
    ∷ (codes "ipv4-address", types.Address)
    ∷ (codes "string", types.Text)
    ∷ (codes "fqdn", types.Name)
    ∷ (codes "tuple", types.Tuple)
    ∷ []

-- the types of the fields of a record, whose names have commas between them
abbrev pub types_in : List (List ℕ) → Option (List FieldType)
types_in [] = Some []
types_in (name ∷ names) = do
  first ← lookup (bytes_eq (trimmed name)) field_types
  others ← types_in names
  Some (first ∷ others)

-- the types of the fields of a value: none of an empty one, several of a record, else one; nothing
-- if such a value is not read from text
unfoldable pub fields_named : List ℕ → List ℕ → Option (List FieldType)
fields_named type record_types =
    if bytes_eq type (codes "empty") then Some []
    else if bytes_eq type (codes "record") then types_in (slice_split (is_byte 44) record_types)
    else if bytes_eq type (codes "binary") then Some (types.Bytes ∷ [])
    else option_map (λ field. field ∷ []) (lookup (bytes_eq type) field_types)

-- a code of its own for a message: Kea has no standard option with it, or it is
-- `vendor-encapsulated-options`, which may be defined anew. A class defines only that one and
-- those of its site (RFC 3942: 224 to 254)
abbrev pub is_free_code : Bool → ℕ → Bool
is_free_code in_class code =
    code == 43
    || (nat_le 1 code && not (is_some (kind_by_code code)) && (not in_class || nat_le 224 code))

-- a name of its own: no standard option has it, or the one with this code
abbrev pub is_free_name : ℕ → Option (ℕ × Kind) → Bool
is_free_name code None = true
is_free_name code (Some standard) = standard.0 == code

-- an option may be defined: it does not consist of options of messages. A class defines options of
-- messages only
abbrev pub may_define : Bool → DefinedOption → Bool
may_define in_class it =
    not (is_dhcp4 it.inner)
    && (if is_dhcp4 it.space
    then is_free_code in_class it.code && is_free_name it.code (option_by_name it.name)
    else not in_class)

-- the definition that a value describes, in a class or for the whole server
unfoldable pub kea_definition : Bool → Data → Option DefinedOption
kea_definition in_class d = do
  _ ← must (keys_are_read definition_keys d)
  space ← text_otherwise (codes "dhcp4") (get (codes "space") d)
  name ← get (codes "name") d >>= as_str
  code ← get (codes "code") d >>= number_within 0 254
  type ← get (codes "type") d >>= as_str
  record_types ← text_otherwise [] (get (codes "record-types") d)
  repeats ← flag_given (get (codes "array") d)
  inner ← text_otherwise [] (get (codes "encapsulate") d)
  value ← Some (record { space = space; code = code; name = name; fields = fields_named type record_types; repeats = repeats; inner = inner })
  only_if (may_define in_class value) value

-- two definitions say two things of one option: they have one space, and one code or one name
abbrev pub are_of_one : DefinedOption → DefinedOption → Bool
are_of_one a b = bytes_eq a.space b.space && (a.code == b.code || bytes_eq a.name b.name)

-- no two definitions are of one option
abbrev pub are_apart : List DefinedOption → Bool
are_apart [] = true
are_apart (it ∷ others) = not (list_any (are_of_one it) others) && are_apart others

-- the definitions in a list of at most 256
unfoldable pub kea_definitions : Bool → Option Data → Option (List DefinedOption)
kea_definitions in_class value = do
  definitions ← list_of 256 (kea_definition in_class) value
  only_if (are_apart definitions) definitions

-- the space of the options in `vendor-encapsulated-options` (RFC 2132 section 8.4) unless it is
-- defined anew
abbrev pub vendor_space : List ℕ
vendor_space = codes "vendor-encapsulated-options-space"

-- `vendor-encapsulated-options` as Kea defines it: nothing but the options of a space
abbrev pub usual_vendor : DefinedOption
usual_vendor =
    record { space = codes "dhcp4"; code = 43; name = codes "vendor-encapsulated-options"; fields = Some []; repeats = false; inner = vendor_space }

-- a standard option whose value is a record of these fields
abbrev pub record_option : ℕ → List ℕ → List FieldType → Bool → DefinedOption
record_option code name fields repeats =
    record { space = codes "dhcp4"; code = code; name = name; fields = Some fields; repeats = repeats; inner = [] }

-- the standard options that are records (RFC 2610, 4578 and 6731), as Kea defines them
abbrev pub standard_records : List DefinedOption
standard_records =
    record_option 78 (codes "slp-directory-agent") (types.Flag ∷ types.Address ∷ []) true
    ∷ record_option 79 (codes "slp-service-scope") (types.Flag ∷ types.Text ∷ []) false
    ∷ record_option 94 (codes "client-ndi") (types.Uint8 ∷ types.Uint8 ∷ types.Uint8 ∷ []) false
    ∷ record_option 97 (codes "uuid-guid") (types.Uint8 ∷ types.Bytes ∷ []) false
    ∷ record_option 146 (codes "rdnss-selection") (types.Uint8 ∷ types.Address ∷ types.Address ∷ types.Name ∷ []) true
    ∷ []

-- the definitions of the whole server: those of its list, and then the usual ones
unfoldable pub kea_known : Option Data → Option (List DefinedOption)
kea_known value = do
  definitions ← kea_definitions false value
  Some (definitions ++ usual_vendor ∷ standard_records)

-- the definition of the option of a space with a code
abbrev pub defined_at : List DefinedOption → List ℕ → ℕ → Option DefinedOption
defined_at known space code = find (λ it. bytes_eq it.space space && it.code == code) known

-- the definition of the option of a space with a name
abbrev pub defined_as : List DefinedOption → List ℕ → List ℕ → Option DefinedOption
defined_as known space name = find (λ it. bytes_eq it.space space && bytes_eq it.name name) known
