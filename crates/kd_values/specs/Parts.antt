-- Several values in one text (Kea Administrator Reference Manual, option data with `csv-format`):
-- values between commas, each with blanks around it that do not count.
use Rattle.std.specs.Prelude.{ℕ, List, [], ◌∷◌, ◌++◌, reverse, Option, Some, None}
use Rattle.std.specs.List.{slice_split}
use Rattle.kd_expr.specs.Lexical.{a_blank}
use Rattle.kd_expr.specs.Lexing.{behind_of}
use Rattle.memchr.specs.Find.{is_byte}
use Rattle.kd_wire.specs.Steps.{◌>>=◌}

-- a text without the blanks before it and behind it
abbrev pub trimmed : List ℕ → List ℕ
trimmed text = reverse (behind_of a_blank (reverse (behind_of a_blank text)))

-- the values of parts one after another, if each part has one
abbrev pub values_in : (List ℕ → Option (List ℕ)) → List (List ℕ) → Option (List ℕ)
values_in value [] = Some []
values_in value (part ∷ parts) = do
  first ← value part
  others ← values_in value parts
  Some (first ++ others)

-- the values between the commas of a text one after another
abbrev pub values_between_commas : (List ℕ → Option (List ℕ)) → List ℕ → Option (List ℕ)
values_between_commas value text =
    values_in (λ part. value (trimmed part)) (slice_split (is_byte 44) text)

-- two parts
abbrev pub if_two : List (List ℕ) → Option (List ℕ × List ℕ)
if_two (front ∷ back ∷ []) = Some (front, back)
if_two parts = None

-- the texts before and behind the only occurrence of a byte
abbrev pub halves_at : ℕ → List ℕ → Option (List ℕ × List ℕ)
halves_at byte text = if_two (slice_split (is_byte byte) text)
