-- The JSON value that a text in UTF-8 spells.
use Rattle.std.specs.Prelude.{ℕ, if◌then◌else◌, List, Option, None}
use Rattle.std.specs.Str.{is_utf8}
use Rattle.serde_json.specs.Data.{Data}
use Rattle.serde_json.specs.Read as json

-- the value that a text spells
unfoldable pub value_spelled : List ℕ → Option Data
value_spelled text = if is_utf8 text then json.read text else None
