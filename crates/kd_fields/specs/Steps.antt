-- Steps of a definition that may have no result.
use Rattle.std.specs.Prelude.{Bool, if◌then◌else◌, Option, Some, None}

-- go on only if a test holds
abbrev pub must : Bool → Option (Unit {0})
must test = if test then Some tt else None

-- a value, only if a test holds
abbrev pub only_if : {A : Type 0} → Bool → A → Option A
only_if test a = if test then Some a else None
