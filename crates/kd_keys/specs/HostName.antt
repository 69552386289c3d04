-- The host name of a reservation in a configuration of Kea's, which is the option 12 of its client
-- (RFC 2132 section 3.14). Kea sends it in small letters and without a dot at its end. A name with a
-- suffix (`ddns-qualifying-suffix`) behind it is not built here.
use Rattle.std.specs.Prelude.{ℕ, ◌-◌, ◌==◌, nat_eq, nat_le, Bool, true, false, not, ◌&&◌, List, [], ◌∷◌, filter, length, take, codes, Option, Some, None, if◌then◌else◌}
use Rattle.std.specs.List.{ends_with}
use Rattle.std.specs.Str.{str_to_ascii_lowercase}
use Rattle.serde_json.specs.Data.{Data}
use Rattle.serde_json.specs.Find.{get}
use Rattle.kd_classes.specs.declared.option_list.OptionData.{OptionData}
use Rattle.kd_fields.specs.Steps.{must, only_if}
use Rattle.kd_fields.specs.Values.{text_if_given}
use Rattle.kd_keys.specs.Keys.{is_plain, word}
use Rattle.kd_keys.specs.Options.{kea_options}
use Rattle.kd_keys.specs.Values.{is_plain_if_given, unless_empty}
use Rattle.kd_keys.specs.declared.definition.DefinedOption.{DefinedOption}
use Rattle.kd_wire.specs.Steps.{◌>>=◌}

-- the code of `host-name`
abbrev pub name_code : ℕ
name_code = 12

-- a text without a dot at its end
abbrev pub without_dot : List ℕ → List ℕ
without_dot text = if ends_with nat_eq text (codes ".") then take (length text - 1) text else text

-- a name as it is sent: in small letters, and without a dot at its end
abbrev pub sent_name : List ℕ → List ℕ
sent_name text = str_to_ascii_lowercase (without_dot text)

-- a text is a name: it has at most 255 bytes, and it is not a dot alone
abbrev pub is_host_name : List ℕ → Bool
is_host_name text = nat_le (length text) 255 && nat_le 1 (length (sent_name text))

-- the name that a text gives, as it is sent, if there is a text
abbrev pub name_by : Option (List ℕ) → Option (Option (List ℕ))
name_by None = Some None
name_by (Some text) = only_if (is_host_name text) (Some (sent_name text))

-- the host name that a value gives, as it is sent; an empty text is none
unfoldable pub host_name : Option Data → Option (Option (List ℕ))
host_name value = do
  text ← text_if_given value
  name_by (unless_empty text)

-- host names have no suffix: the one that is given is empty, or none is given and they have none above
abbrev pub are_bare : Bool → Option Data → Bool
are_bare above None = above
are_bare above (Some d) = is_plain (word []) d

-- the host names in an object have no suffix, by its own word or else by what is above it
abbrev pub has_bare_names : Bool → Data → Bool
has_bare_names above d = are_bare above (get (codes "ddns-qualifying-suffix") d)

-- the host names of the whole server have no suffix, by the value of `Dhcp4`; Kea takes the older key
-- in `dhcp-ddns` where the other is not given
abbrev pub server_has_bare_names : Data → Bool
server_has_bare_names d =
    has_bare_names (is_plain_if_given (word [])
    (get (codes "dhcp-ddns") d >>= get (codes "qualifying-suffix"))) d

-- a name is not to have a suffix, or there is no name
abbrev pub may_be_named : Bool → Option (List ℕ) → Bool
may_be_named bare None = true
may_be_named bare (Some name) = bare

-- options with a name before them, if there is one; it takes the place of another host name
abbrev pub with_host_name : Option (List ℕ) → List OptionData → List OptionData
with_host_name None options = options
with_host_name (Some name) options =
    record { code = name_code; value = name; always = true }
    ∷ filter (λ option. not (option.code == name_code)) options

-- the options of a reservation, its host name first: at most 64
unfoldable pub host_options : List DefinedOption → Bool → Data → Option (List OptionData)
host_options known bare d = do
  name ← host_name (get (codes "hostname") d)
  _ ← must (may_be_named bare name)
  options ← kea_options false known (get (codes "option-data") d)
  only_if (nat_le (length (with_host_name name options)) 64) (with_host_name name options)
