-- The options in a configuration of Kea's: the entries of a list, and what they are together. An
-- option may consist of the options of another space, which stand beside it in the list.
use Rattle.std.specs.Prelude.{ℕ, ◌==◌, nat_eq, Bool, true, not, ◌&&◌, ◌||◌, List, [], ◌∷◌, ◌++◌, bytes_eq, length, map, codes, Option, Some, None, nat_le, option_and_then, option_map, if◌then◌else◌}
use Rattle.std.specs.Int.{from_be_bytes, w32}
use Rattle.std.specs.List.{filter, find, flat_map, list_all, list_any, range_with_len, starts_with}
use Rattle.serde_json.specs.Data.{Data}
use Rattle.serde_json.specs.Find.{get}
use Rattle.kd_classes.specs.declared.option_list.OptionData.{OptionData}
use Rattle.kd_config.specs.Options.{own_codes}
use Rattle.kd_fields.specs.Lists.{list_of}
use Rattle.kd_fields.specs.Steps.{must, only_if}
use Rattle.kd_fields.specs.Values.{number_within, text_if_given}
use Rattle.kd_keys.specs.Definitions.{defined_as, defined_at, is_dhcp4, vendor_space}
use Rattle.kd_keys.specs.Keys.{keys_are_read}
use Rattle.kd_keys.specs.OptionValue.{data_by, has_type, is_text_given, standard_type, text_kind}
use Rattle.kd_keys.specs.Tables.{data_keys}
use Rattle.kd_keys.specs.Values.{flag_given, text_otherwise}
use Rattle.kd_keys.specs.declared.definition.DefinedOption.{DefinedOption}
use Rattle.kd_keys.specs.declared.entry.OptionEntry.{OptionEntry}
use Rattle.kd_names.specs.Table.{option_by_name}
use Rattle.kd_wire.specs.Steps.{◌>>=◌}

-- the code of the option that has the server's address, `dhcp-server-identifier`
abbrev pub server_code : ℕ
server_code = 54

-- an option of a message with this code may be configured; for the whole server also the one with
-- its address
abbrev pub may_configure : Bool → ℕ → Bool
may_configure for_all code =
    nat_le 1 code && nat_le code 254
    && ((for_all && code == server_code) || not (list_any (nat_eq code) own_codes))

-- an option of a space with this code may be configured: each one of another space
abbrev pub may_stand_in : Bool → List ℕ → ℕ → Bool
may_stand_in for_all space code = not (is_dhcp4 space) || may_configure for_all code

-- a code, if there is a value
abbrev pub code_if_given : Option Data → Option (Option ℕ)
code_if_given None = Some None
code_if_given (Some d) = option_map Some (number_within 0 254 d)

-- the code of the standard option of a space with a name
abbrev pub standard_code : List ℕ → List ℕ → Option ℕ
standard_code space name =
    if is_dhcp4 space then option_map (λ option. option.0) (option_by_name name) else None

-- the code by a definition, or else by the standard
abbrev pub code_by : Option DefinedOption → Option ℕ → Option ℕ
code_by (Some it) standard = Some it.code
code_by None standard = standard

-- the code of the option of a space with a name, if it is known
unfoldable pub code_named : List DefinedOption → List ℕ → List ℕ → Option ℕ
code_named known space name = code_by (defined_as known space name) (standard_code space name)

-- a code may stand beside a name with this code: it is the same; a name that is not known stands only
-- beside a code of an option without a type
abbrev pub may_have_name : Bool → ℕ → Option ℕ → Bool
may_have_name typed code None = not typed
may_have_name typed code (Some named) = code == named

-- the option of a space with a code has a type
abbrev pub has_known_type : List DefinedOption → List ℕ → ℕ → Bool
has_known_type known space code = has_type (defined_at known space code) (standard_type space code)

-- one code, of a code and of a name with this code, if one of them or both are there
abbrev pub one_code : (ℕ → Bool) → Option ℕ → Option (Option ℕ) → Option ℕ
one_code typed given None = given
one_code typed None (Some named) = named
one_code typed (Some code) (Some named) =
    only_if (may_have_name (typed code) code named) code

-- the code of an option of a space that may be configured, by `code` and `name`
unfoldable pub kea_code : Bool → List DefinedOption → List ℕ → Data → Option ℕ
kea_code for_all known space d = do
  given ← code_if_given (get (codes "code") d)
  name ← text_if_given (get (codes "name") d)
  code ← one_code (has_known_type known space) given (option_map (code_named known space) name)
  only_if (may_stand_in for_all space code) code

-- a space whose options are read: it has a name, and is none of vendors (`vendor-4491`), whose
-- options Kea sends to clients that ask for them
abbrev pub is_served_space : List ℕ → Bool
is_served_space space =
    not (bytes_eq space [])
    && (bytes_eq space vendor_space || not (starts_with nat_eq space (codes "vendor-")))

-- a space, if it is given, is one whose options are read
abbrev pub is_served_if_given : Option (List ℕ) → Bool
is_served_if_given None = true
is_served_if_given (Some space) = is_served_space space

-- the space of the options that an option consists of; empty if there is none
abbrev pub inner_space : Option DefinedOption → List ℕ
inner_space None = []
inner_space (Some it) = it.inner

-- a value has a length that its option may have: in the option of another at most 255
abbrev pub fits_in_option : List ℕ → List ℕ → Bool
fits_in_option space value = is_dhcp4 space || nat_le (length value) 255

-- the entry of a space with a code that a value describes, by the definition of the option
unfoldable pub entry_by : Option DefinedOption → List ℕ → ℕ → Data → Option OptionEntry
entry_by it space code d = do
  is_text ← is_text_given (has_type it (standard_type space code)) (get (codes "csv-format") d)
  value ← data_by is_text it (text_kind space code) (get (codes "data") d)
  always ← flag_given (get (codes "always-send") d)
  only_if (fits_in_option space value) (record { space = space; code = code; value = value; inner = inner_space it; is_text = is_text; always = always })

-- the entry that a value describes, for the whole server or a part of it
unfoldable pub kea_entry : Bool → List DefinedOption → Data → Option OptionEntry
kea_entry for_all known d = do
  _ ← must (keys_are_read data_keys d)
  space ← text_otherwise (codes "dhcp4") (get (codes "space") d)
  _ ← must (is_served_space space)
  code ← kea_code for_all known space d
  entry_by (defined_at known space code) space code d

-- an entry is of a space
abbrev pub is_of_space : List ℕ → OptionEntry → Bool
is_of_space space entry = bytes_eq entry.space space

-- an entry is that of a space with a code
abbrev pub is_entry : List ℕ → ℕ → OptionEntry → Bool
is_entry space code entry = bytes_eq entry.space space && entry.code == code

-- no two entries are of one space and have one code
abbrev pub entries_differ : List OptionEntry → Bool
entries_differ [] = true
entries_differ (entry ∷ others) =
    not (list_any (is_entry entry.space entry.code) others) && entries_differ others

-- an entry may stand beside these: if its option consists of options that are here, it is an option
-- of a message, and its own value is text or empty
abbrev pub may_hold : List OptionEntry → OptionEntry → Bool
may_hold entries entry =
    not (list_any (is_of_space entry.inner) entries)
    || (is_dhcp4 entry.space && (entry.is_text || length entry.value == 0))

-- an option in another one: its code, its length in a byte, and its value (RFC 2132 section 8.4); it
-- has no room there if it is longer
abbrev pub inner_option : Option OptionEntry → List ℕ
inner_option None = []
inner_option (Some entry) =
    if nat_le (length entry.value) 255 then entry.code ∷ length entry.value ∷ entry.value else []

-- the options of a space that have a code below an end, in rising order of their codes
unfoldable pub options_below : List OptionEntry → List ℕ → ℕ → List ℕ
options_below entries space end =
    flat_map (λ code. inner_option (find (is_entry space code) entries)) (range_with_len 0 end)

-- the option of an entry: its own value, and then the options that it consists of; its own word says
-- whether it is sent to all, not theirs
abbrev pub option_with : List OptionEntry → OptionEntry → OptionData
option_with entries entry =
    record { code = entry.code; value = entry.value ++ options_below entries entry.inner 255; always = entry.always }

-- an entry is of an option of a message
abbrev pub is_of_message : OptionEntry → Bool
is_of_message entry = is_dhcp4 entry.space

-- the options of messages that entries describe
abbrev pub options_by : List OptionEntry → List OptionData
options_by entries = map (option_with entries) (filter is_of_message entries)

-- an option has at most 1,024 bytes
abbrev pub is_short : OptionData → Bool
is_short option = nat_le (length option.value) 1024

-- the options of a list of at most 64 entries, none of which is there twice
unfoldable pub kea_options : Bool → List DefinedOption → Option Data → Option (List OptionData)
kea_options for_all known value = do
  entries ← list_of 64 (kea_entry for_all known) value
  _ ← must (entries_differ entries)
  _ ← must (list_all (may_hold entries) entries)
  only_if (list_all is_short (options_by entries)) (options_by entries)

-- an option has the server's address
abbrev pub is_server_option : OptionData → Bool
is_server_option option = option.code == server_code

-- an address that is not 0.0.0.0
abbrev pub some_address : ℕ → Option ℕ
some_address address = only_if (not (address == 0)) address

-- the address in four bytes, which is not 0.0.0.0
abbrev pub address_in_bytes : List ℕ → Option ℕ
address_in_bytes bytes =
    if length bytes == 4 then some_address (from_be_bytes w32 bytes) else None

-- the server's address: that of its option, or else the one that is given beside the text
abbrev pub address_by : Option OptionData → Option ℕ → Option ℕ
address_by (Some option) server = address_in_bytes option.value
address_by None server = option_and_then some_address server

-- the server's address, by the options of the whole server
unfoldable pub server_address : List OptionData → Option ℕ → Option ℕ
server_address options server = address_by (find is_server_option options) server

-- the options that the server sends to all clients: not the one with its address
abbrev pub sent_to_all : List OptionData → List OptionData
sent_to_all options = filter (λ option. not (is_server_option option)) options
