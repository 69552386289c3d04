-- Option data: the codes and values of options (RFC 2132) that the server sends.
use Rattle.std.specs.Prelude.{ℕ, Bool, false, not, nat_eq, List, [], ◌∷◌, ◌++◌, codes, Option, Some}
use Rattle.std.specs.List.{list_any}
use Rattle.serde_json.specs.Data.{Data, Items, no_items, item}
use Rattle.serde_json.specs.Find.{as_bool, get}
use Rattle.kd_classes.specs.declared.option_list.OptionData.{OptionData}
use Rattle.kd_config.specs.Options.{code_among, own_codes}
use Rattle.kd_fields.specs.Lists.{items_or_none}
use Rattle.kd_fields.specs.Steps.{must, only_if}
use Rattle.kd_fields.specs.Values.{hex_bytes_in, has_keys, number_within}
use Rattle.kd_wire.specs.Steps.{◌>>=◌}

-- the keys of option data
abbrev pub option_keys : List (List ℕ)
option_keys = codes "code" ∷ codes "data" ∷ codes "csv-format" ∷ []

-- a value is an object with all the keys of option data and no other
unfoldable pub has_option_keys : Data → Bool
has_option_keys d = has_keys option_keys option_keys d

-- the code of an option that may be configured
unfoldable pub code_given : Data → Option ℕ
code_given d = do
  code ← number_within 1 254 d
  only_if (not (list_any (nat_eq code) own_codes)) code

-- the option that a value describes; its code must not be among those of earlier options
unfoldable pub option_after : List OptionData → Data → Option OptionData
option_after earlier d = do
  _ ← must (has_option_keys d)
  code ← get (codes "code") d >>= code_given
  _ ← must (not (code_among code earlier))
  value ← get (codes "data") d >>= hex_bytes_in 0 1024
  is_text ← get (codes "csv-format") d >>= as_bool
  only_if (not is_text) (record { code = code; value = value; always = false })

-- earlier options, and after them those that these items describe
abbrev pub options_behind : List OptionData → Items → Option (List OptionData)
options_behind earlier no_items = Some earlier
options_behind earlier (item d ds) = do
  option ← option_after earlier d
  options_behind (earlier ++ option ∷ []) ds

-- the options of a list of at most 64, with no code twice
unfoldable pub option_list_in : Option Data → Option (List OptionData)
option_list_in value = items_or_none 64 value >>= options_behind []
