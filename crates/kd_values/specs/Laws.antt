-- What kd_names prints for a value is read back as this value, and a field of text is read as an option
-- of text.
use Rattle.std.specs.Prelude.{◌≡◌, ℕ, ◌&&◌, ◌||◌, ◌==◌, not, Bool, true, false, nat_le, List, [], ◌∷◌, Some}
use Rattle.std.specs.List.{flat_map, list_all}
use Rattle.hex.specs.Hex.{IsBytes}
use Rattle.kd_names.specs.Values.{fits_kind, sign_text, text_by_kind}
use Rattle.kd_names.specs.declared.kind.Kind.{Kind}
use Rattle.kd_names.specs.declared.kind.Kind.TheVariants.{Text}
use Rattle.kd_values.specs.declared.field_type.FieldType.TheVariants as fields
use Rattle.kd_values.specs.Fields.{fields_spelled}
use Rattle.kd_values.specs.Parts.{trimmed}
use Rattle.kd_values.specs.Spelled.{data_spelled}

-- a byte of a text that is printed as it is and needs no backslash to be read
abbrev pub is_plain_sign : ℕ → Bool
is_plain_sign b = nat_le 32 b && nat_le b 126 && not (b == 34 || b == 44 || b == 92)

-- a value as kd_names prints it, but a text without its quotation marks
abbrev pub bare_text : Kind → List ℕ → List ℕ
bare_text Text value = flat_map sign_text value
bare_text kind value = text_by_kind kind value

-- what the law covers: a text of such bytes that neither begins nor ends with a space; each value
-- of another type
abbrev pub PrintsPlainly : Kind → List ℕ → Type 0
PrintsPlainly Text value = (list_all is_plain_sign value ≡ true) × (trimmed value ≡ value)
PrintsPlainly kind value = Unit {0}

-- each value that has the form of its type is read back from what is printed
abbrev pub PrintedReads : Type 0
PrintedReads =
    (kind : Kind) (value : List ℕ) → IsBytes value → fits_kind kind value ≡ true
    → PrintsPlainly kind value → data_spelled kind (bare_text kind value) ≡ Some value

-- a text gives the same value for one field of text and for an option of text
abbrev pub TextFieldReads : Type 0
TextFieldReads =
    (text : List ℕ) → fields_spelled (fields.Text ∷ []) false text ≡ data_spelled Text text
