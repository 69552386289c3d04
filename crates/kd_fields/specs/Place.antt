-- Where a value is in a configuration: the keys and indexes from the root, each after `/`.
use Rattle.std.specs.Prelude.{ℕ, List, [], ◌∷◌, ◌++◌}
use Rattle.std.specs.Fmt.{decimal}
use Rattle.kd_fields.specs.declared.place.Place.{Place}
use Rattle.kd_fields.specs.declared.place.Place.TheVariants as places

-- the path of a key, or of an index in a list, below a path
abbrev pub path_below : List ℕ → List ℕ → List ℕ
path_below path key = path ++ 47 ∷ key

-- the path of a place: the keys and indexes from the root, each after `/`
abbrev pub path_at : Place → List ℕ
path_at places.Root = []
path_at (places.Key' p above key) = path_at above ++ 47 ∷ key.now
path_at (places.Item' p above number) = path_at above ++ 47 ∷ decimal number
