-- The classes that a subnet, a pool or a reservation requires: a client must be in each of them.
use Rattle.std.specs.Prelude.{ℕ, Bool, List, [], ◌∷◌, Option, Some, None}
use Rattle.std.specs.List.{list_all}
use Rattle.kd_machine.specs.Parts.{is_held}

-- the classes of a part that requires this one, if it requires one
abbrev pub class_list : Option (List ℕ) → List (List ℕ)
class_list None = []
class_list (Some class) = class ∷ []

-- each class that such a part requires is held
abbrev pub classes_admit : List (List ℕ) → List (List ℕ) → Bool
classes_admit classes names = list_all (λ class. is_held class names) classes
