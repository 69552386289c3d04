-- The types of the fields of a record, name by name.
use Rattle.std.proofs.Common.{◌≡◌, ◌∙◌, ℕ, List, [], ◌∷◌, ◌++◌, Option, Some, None, refl, sym, ap, append_assoc, option_and_then, option_map}
use Rattle.std.specs.Map.{lookup}
use Rattle.std.specs.Str.{bytes_eq}
use Rattle.kd_values.specs.Parts.{trimmed}
use Rattle.kd_values.specs.declared.field_type.FieldType.{FieldType}
use Rattle.kd_keys.specs.Definitions.{field_types, standard_records, types_in, usual_vendor}
use Rattle.kd_keys.specs.declared.definition.DefinedOption.{DefinedOption}

behind_first : (out : List FieldType) (field : FieldType) (o : Option (List FieldType)) → option_map (λ w. out ++ w) (option_and_then (λ others. Some (field ∷ others)) o) ≡ option_map (λ w. (out ++ field ∷ []) ++ w) o
behind_first out field None = refl
behind_first out field (Some w) = ap Some (sym (append_assoc out (field ∷ []) w))

-- a name of a type goes behind what there is
pub name_read : (out : List FieldType) (field : FieldType) (name : List ℕ) (names : List (List ℕ)) → lookup (bytes_eq (trimmed name)) field_types ≡ Some field
    → option_map (λ w. out ++ w) (types_in (name ∷ names)) ≡ option_map (λ w. (out ++ field ∷ []) ++ w) (types_in names)
name_read out field name names is =
    ap (λ (o : Option FieldType). option_map (λ w. out ++ w) (option_and_then (λ first. option_and_then (λ others. Some (first ∷ others)) (types_in names)) o)) is
    ∙ behind_first out field (types_in names)

-- the usual definitions follow others
pub usual_follow : (definitions : List DefinedOption) → (definitions ++ usual_vendor ∷ []) ++ standard_records ≡ definitions ++ usual_vendor ∷ standard_records
usual_follow definitions = append_assoc definitions (usual_vendor ∷ []) standard_records
