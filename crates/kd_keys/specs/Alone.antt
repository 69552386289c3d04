-- The definitions of options that are right by themselves, whatever stands beside them.
use Rattle.std.specs.Prelude.{Bool, false, List, [], ◌∷◌, ◌++◌, codes, Option, Some, None}
use Rattle.serde_json.specs.Data.{Data, Items, no_items, item}
use Rattle.serde_json.specs.Find.{as_array, get}
use Rattle.kd_keys.specs.Definitions.{kea_definition, standard_records, usual_vendor}
use Rattle.kd_keys.specs.declared.definition.DefinedOption.{DefinedOption}
use Rattle.kd_wire.specs.Steps.{◌>>=◌}

-- what an item describes, if it describes anything, before what others do
abbrev pub with_first : {A : Type 0} → Option A → List A → List A
with_first None others = others
with_first (Some it) others = it ∷ others

-- what the items describe that describe anything
abbrev pub each_described : {A : Type 0} → (Data → Option A) → Items → List A
each_described means no_items = []
each_described means (item d ds) = with_first (means d) (each_described means ds)

-- the items of a list; none of another value
abbrev pub items_of : Option Items → Items
items_of None = no_items
items_of (Some items) = items

-- the definitions of options in an object that are right by themselves
unfoldable pub right_definitions : Bool → Data → List DefinedOption
right_definitions in_class d =
    each_described (kea_definition in_class) (items_of (get (codes "option-def") d >>= as_array))

-- the definitions by which options are read: those that are right by themselves, and the usual one
unfoldable pub usable_definitions : Data → List DefinedOption
usable_definitions d = right_definitions false d ++ usual_vendor ∷ standard_records
