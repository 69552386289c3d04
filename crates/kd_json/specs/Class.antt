-- A client class: a name, a test as text or the name of a token file, and options.
use Rattle.std.specs.Prelude.{ℕ, Bool, List, [], ◌∷◌, codes, Option, Some, None}
use Rattle.serde_json.specs.Data.{Data}
use Rattle.serde_json.specs.Find.{get}
use Rattle.kd_classes.specs.Boot.{no_boot}
use Rattle.kd_json.specs.Options.{option_list_in}
use Rattle.kd_wire.specs.Steps.{◌>>=◌}
use Rattle.kd_fields.specs.Steps.{must}
use Rattle.kd_fields.specs.Values.{class_name_in, has_keys, text_if_given}
use Rattle.kd_json.specs.declared.objects.class.ClassEntry.{ClassEntry}
use Rattle.kd_json.specs.declared.objects.class.TestSource.{TestSource}
use Rattle.kd_json.specs.declared.objects.class.TestSource.TheVariants.{Nothing, Expression, TokenFile}

-- a value is an object with the keys of a class
unfoldable pub has_class_keys : Data → Bool
has_class_keys d =
    has_keys (codes "name" ∷ codes "test" ∷ codes "tokens" ∷ codes "option-data" ∷ [])
    (codes "name" ∷ []) d

-- a test is given as text or by a token file, but not both
abbrev pub test_source : Option (List ℕ) → Option (List ℕ) → Option TestSource
test_source None None = Some Nothing
test_source (Some text) None = Some (Expression text)
test_source None (Some file) = Some (TokenFile file)
test_source (Some text) (Some file) = None

-- the test that the keys `test` and `tokens` give
unfoldable pub test_source_in : Data → Option TestSource
test_source_in d = do
  text ← text_if_given (get (codes "test") d)
  file ← text_if_given (get (codes "tokens") d)
  test_source text file

-- the class that a value describes
unfoldable pub class_of : Data → Option ClassEntry
class_of d = do
  _ ← must (has_class_keys d)
  name ← get (codes "name") d >>= class_name_in
  source ← test_source_in d
  options ← option_list_in (get (codes "option-data") d)
  Some (record { name = name; source = source; options = options; boot = no_boot; lifetime = None })
