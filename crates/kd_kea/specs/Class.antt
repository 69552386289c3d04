-- A client class in a configuration of Kea's: a name, a test, options, boot fields, and how long the
-- leases of its members last.
use Rattle.std.specs.Prelude.{ℕ, true, false, not, List, ◌++◌, codes, Option, Some, None}
use Rattle.serde_json.specs.Data.{Data}
use Rattle.serde_json.specs.Find.{get}
use Rattle.kd_classes.specs.declared.option_list.OptionData.{OptionData}
use Rattle.kd_fields.specs.Values.{class_name_in}
use Rattle.kd_fields.specs.Steps.{must, only_if}
use Rattle.kd_fields.specs.Values.{text_if_given}
use Rattle.kd_json.specs.declared.objects.class.ClassEntry.{ClassEntry}
use Rattle.kd_json.specs.declared.objects.class.TestSource.{TestSource}
use Rattle.kd_json.specs.declared.objects.class.TestSource.TheVariants.{Nothing, Expression}
use Rattle.kd_keys.specs.Boot.{own_boot}
use Rattle.kd_keys.specs.ClassNames.{is_of_clients}
use Rattle.kd_keys.specs.Definitions.{kea_definitions}
use Rattle.kd_keys.specs.Keys.{keys_are_read}
use Rattle.kd_kea.specs.Lifetimes.{own_lifetime}
use Rattle.kd_kea.specs.OptionText.{test_by_bytes}
use Rattle.kd_keys.specs.Options.{kea_options}
use Rattle.kd_keys.specs.Tables.{class_keys}
use Rattle.kd_keys.specs.Values.{unless_empty}
use Rattle.kd_keys.specs.declared.definition.DefinedOption.{DefinedOption}
use Rattle.kd_wire.specs.Steps.{◌>>=◌}

-- a text is a test, if there is one; it asks for the bytes of options where it asks for their texts
abbrev pub source_by : Option (List ℕ) → TestSource
source_by None = Nothing
source_by (Some text) = Expression (test_by_bytes text)

-- the options of a class, by its own definitions before those of the whole server
unfoldable pub kea_class_options : List DefinedOption → Data → Option (List OptionData)
kea_class_options known d = do
  own ← kea_definitions true (get (codes "option-def") d)
  kea_options false (own ++ known) (get (codes "option-data") d)

-- the name of a class of the file's own: not one of the two that say whether a client has a reservation
unfoldable pub own_class_name : Data → Option (List ℕ)
own_class_name d = do
  name ← class_name_in d
  only_if (not (is_of_clients name)) name

-- the class that a value describes; an empty test is none
unfoldable pub kea_class : List DefinedOption → Data → Option ClassEntry
kea_class known d = do
  _ ← must (keys_are_read class_keys d)
  name ← get (codes "name") d >>= own_class_name
  text ← text_if_given (get (codes "test") d)
  options ← kea_class_options known d
  boot ← own_boot d
  lifetime ← own_lifetime d
  Some (record { name = name; source = source_by (unless_empty text); options = options; boot = boot; lifetime = lifetime })
