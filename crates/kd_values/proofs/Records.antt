-- Parts that are read field by field.
use Rattle.std.proofs.Common.{◌≡◌, ◌∙◌, ℕ, suc, ◌+◌, ◌-◌, ◌<◌, Bool, true, false, List, [], ◌∷◌, ◌++◌, length, Option, Some, None, option_and_then, option_map, if◌then◌else◌, refl, ap, arith, append-nil}
use Rattle.std.specs.Prelude.{replicate}
use Rattle.kd_values.specs.declared.field_type.FieldType.{FieldType}
use Rattle.kd_values.specs.Fields.{field_spelled, last_field, parts_spelled, types_of_parts, values_by_type}
use Rattle.kd_values.specs.Parts.{trimmed}
use Rattle.kd_values.proofs.Joined.{behind_both}

abbrev with_others : List FieldType → List (List ℕ) → Option (List ℕ) → Option (List ℕ)
with_others fields parts value =
    option_and_then (λ first. option_and_then (λ others. Some (first ++ others)) (values_by_type fields parts)) value

-- what is known of the types that begin with this field
abbrev pub GoesOn : FieldType → List FieldType → Bool → FieldType → List FieldType → Type 0
GoesOn field fields repeats second more =
    (n : ℕ) → types_of_parts field fields repeats (n + 2) ≡ field ∷ types_of_parts second more repeats (n + 1)

-- a part goes behind what there is
pub part_read : (field second : FieldType) (fields more : List FieldType) (repeats : Bool) (out v part : List ℕ) (parts : List (List ℕ))
    → 0 < length parts → GoesOn field fields repeats second more → field_spelled field (trimmed part) ≡ Some v
    → option_map (λ w. out ++ w) (parts_spelled field fields repeats (part ∷ parts)) ≡ option_map (λ w. (out ++ v) ++ w) (parts_spelled second more repeats parts)
part_read field second fields more repeats out v part [] some goes is = absurd (omega (arith, some))
part_read field second fields more repeats out v part (p ∷ parts) some goes is =
    let two : suc (suc (length parts)) ≡ length parts + 2 = omega arith in
    let one : length parts + 1 ≡ suc (length parts) = omega arith in
    let types : types_of_parts field fields repeats (suc (suc (length parts))) ≡ field ∷ types_of_parts second more repeats (suc (length parts)) =
    ap (types_of_parts field fields repeats) two ∙ goes (length parts) ∙ ap (λ k. field ∷ types_of_parts second more repeats k) one in
    ap (λ fs. option_map (λ w. out ++ w) (values_by_type fs (part ∷ p ∷ parts))) types
    ∙ ap (λ o. option_map (λ w. out ++ w) (with_others (types_of_parts second more repeats (suc (length parts))) (p ∷ parts) o)) is
    ∙ behind_both out v (parts_spelled second more repeats (p ∷ parts))

-- a part that has no value
pub part_refused : (field : FieldType) (fields : List FieldType) (repeats : Bool) (out part : List ℕ) (parts : List (List ℕ))
    → field_spelled field (trimmed part) ≡ None → option_map (λ w. out ++ w) (parts_spelled field fields repeats (part ∷ parts)) ≡ None
part_refused field fields repeats out part parts is =
    let types = fields ++ (if repeats then replicate (length (part ∷ parts) - length (field ∷ fields)) (last_field field fields) else []) in
    ap (λ o. option_map (λ w. out ++ w) (with_others types parts o)) is

-- the last part, of the last field
pub last_read : (field : FieldType) (repeats : Bool) (out v part : List ℕ)
    → field_spelled field (trimmed part) ≡ Some v → option_map (λ w. out ++ w) (parts_spelled field [] repeats (part ∷ [])) ≡ Some (out ++ v)
last_read field true out v part is =
    ap (λ o. option_map (λ w. out ++ w) (with_others [] [] o)) is ∙ ap (λ w. Some (out ++ w)) (append-nil v)
last_read field false out v part is =
    ap (λ o. option_map (λ w. out ++ w) (with_others [] [] o)) is ∙ ap (λ w. Some (out ++ w)) (append-nil v)

-- a part that is missing
pub too_few : (field : FieldType) (fields : List FieldType) (repeats : Bool) (out part : List ℕ)
    → 0 < length fields → option_map (λ w. out ++ w) (parts_spelled field fields repeats (part ∷ [])) ≡ None
too_few field [] repeats out part some = absurd (omega (arith, some))
too_few field (second ∷ more) repeats out part some = by (field_spelled field (trimmed part))
  where
    by : (o : Option (List ℕ)) → option_map (λ w. out ++ w) (option_and_then (λ first. None) o) ≡ None
    by None = refl
    by (Some v) = refl

-- a part that no field has
pub too_many : (field : FieldType) (fields : List FieldType) (repeats : Bool) (out part : List ℕ) (parts : List (List ℕ))
    → 0 < length parts → ((n : ℕ) → types_of_parts field fields repeats n ≡ field ∷ []) → option_map (λ w. out ++ w) (parts_spelled field fields repeats (part ∷ parts)) ≡ None
too_many field fields repeats out part [] some ends = absurd (omega (arith, some))
too_many field fields repeats out part (p ∷ parts) some ends =
    ap (λ fs. option_map (λ w. out ++ w) (values_by_type fs (part ∷ p ∷ parts))) (ends (length (part ∷ p ∷ parts)))
    ∙ by (field_spelled field (trimmed part))
  where
    by : (o : Option (List ℕ)) → option_map (λ w. out ++ w) (option_and_then (λ first. None) o) ≡ None
    by None = refl
    by (Some v) = refl
