-- What a fault is about, in the JSON value of the text of a configuration.
use Rattle.std.specs.Prelude.{ℕ, List, ◌++◌, bytes_eq, codes, decimal, Option, Some, None, if◌then◌else◌}
use Rattle.kd_wire.specs.Steps.{◌>>=◌}
use Rattle.serde_json.specs.Data.{Data, string}
use Rattle.serde_json.specs.Find.{as_str, at, get, pointer}
use Rattle.serde_json.specs.Written.{compact_text}

-- the value at a path of a whole value; the path `-` is the whole value
abbrev pub value_under : Option Data → List ℕ → Option Data
value_under whole path = if bytes_eq path (codes "-") then whole else whole >>= pointer path

-- the value at a key of the class with a number
abbrev pub class_value : Option Data → ℕ → List ℕ → Option Data
class_value whole number key = do
  root ← whole
  dhcp4 ← get (codes "Dhcp4") root
  classes ← get (codes "client-classes") dhcp4
  class ← at number classes
  get key class

-- the text at a key of the class with a number
abbrev pub class_text : Option Data → ℕ → List ℕ → Option (List ℕ)
class_text whole number key = class_value whole number key >>= as_str

-- how a class is called: by its name as a JSON string, or by its path if it has no name
abbrev pub title_by : ℕ → Option (List ℕ) → List ℕ
title_by number (Some name) = codes "class " ++ compact_text (string name)
title_by number None = codes "/Dhcp4/client-classes/" ++ decimal number

-- how the class with a number is called
abbrev pub class_title : Option Data → ℕ → List ℕ
class_title whole number = title_by number (class_text whole number (codes "name"))

-- how a token file is called: by its name as a JSON string, if it has one
abbrev pub file_title : Option (List ℕ) → List ℕ
file_title (Some name) = codes "token file " ++ compact_text (string name)
file_title None = codes "token file"
