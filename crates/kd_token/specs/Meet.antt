-- The least shape that covers two shapes, for places where paths meet.
use Rattle.std.specs.Prelude.{max, List, [], ◌∷◌, Option, Some, None}
use Rattle.kd_token.specs.declared.shape.Kind.{Kind}
use Rattle.kd_token.specs.declared.shape.Kind.TheVariants as kinds
use Rattle.kd_wire.specs.Steps.{◌>>=◌}

-- the least kind that covers two, if there is one
abbrev pub met_of_kinds : Kind → Kind → Option Kind
met_of_kinds kinds.Bool kinds.Bool = Some kinds.Bool
met_of_kinds kinds.Int kinds.Int = Some kinds.Int
met_of_kinds (kinds.Bytes n) (kinds.Bytes m) = Some (kinds.Bytes (max n m))
met_of_kinds k l = None

-- the least shape that covers two, if there is one
abbrev pub met : List Kind → List Kind → Option (List Kind)
met [] [] = Some []
met [] (l ∷ s) = None
met (k ∷ r) [] = None
met (k ∷ r) (l ∷ s) = met_of_kinds k l >>= λ m. met r s >>= λ t. Some (m ∷ t)
