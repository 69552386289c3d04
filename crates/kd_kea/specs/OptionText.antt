-- The text of an option in a test (Kea Administrator Reference Manual, section Using Expressions in
-- Classification): that of an option whose type is a text has the bytes of the option.
use Rattle.std.specs.Prelude.{ℕ, ◌==◌, Bool, true, false, not, nat_eq, if◌then◌else◌, codes, List, [], ◌∷◌, ◌++◌, drop, map, Option, Some, None}
use Rattle.std.specs.Borrow.{Bor}
use Rattle.std.specs.List.{starts_with}
use Rattle.std.specs.Map.{lookup}

-- the options whose type is a text, as tests name them
abbrev pub text_options : List (List ℕ)
text_options =
    codes "12" ∷ codes "14" ∷ codes "15" ∷ codes "17" ∷ codes "18" ∷ codes "40" ∷ codes "47"
    ∷ codes "56" ∷ codes "60" ∷ codes "62" ∷ codes "64" ∷ codes "66" ∷ codes "67" ∷ codes "86"
    ∷ codes "87" ∷ codes "98" ∷ codes "100" ∷ codes "101" ∷ codes "113" ∷ codes "114"
    ∷ codes "host-name" ∷ codes "domain-name" ∷ codes "vendor-class-identifier" ∷ []

-- how a test asks for the text of an option
abbrev pub asked_as_text : List ℕ → List ℕ
asked_as_text option = codes "option[" ++ option ++ codes "].text"

-- how it asks for the bytes of the option, in as many characters
abbrev pub asked_as_bytes : List ℕ → List ℕ
asked_as_bytes option = codes "option[" ++ option ++ codes "].hex "

-- both forms, one in place of the other
abbrev pub forms_for : List ℕ → List ℕ × List ℕ
forms_for option = (asked_as_text option, asked_as_bytes option)

-- the bytes, if there are any
abbrev pub bytes_or_none : Option (List ℕ) → List ℕ
bytes_or_none None = []
bytes_or_none (Some bytes) = bytes

-- what stands for the beginning of a text that asks for the text of such an option, or nothing
abbrev pub in_bytes_at : List ℕ → List ℕ
in_bytes_at text = bytes_or_none (lookup (starts_with nat_eq text) (map forms_for text_options))

-- what stands behind the first character of a text, outside of quotation marks or inside
abbrev pub pending_at : Bool → List ℕ → List ℕ
pending_at true text = []
pending_at false text = drop 1 (in_bytes_at text)

-- both forms as the code has them: a helper of private contracts only
abbrev pub form_of : Bor (List ℕ) × Bor (List ℕ) → List ℕ × List ℕ
form_of form = (form.0.now, form.1.now)

-- quotation marks begin or end
abbrev pub quoted_behind : Bool → ℕ → Bool
quoted_behind quoted b = if b == 39 then not quoted else quoted

-- a text in which tests ask for the bytes of options in place of their texts, from a place on:
-- inside quotation marks or outside, and behind what is still to be put in place
abbrev pub in_bytes_from : Bool → List ℕ → List ℕ → List ℕ
in_bytes_from quoted pending [] = []
in_bytes_from quoted (x ∷ pending) (b ∷ text) = x ∷ in_bytes_from quoted pending text
in_bytes_from quoted [] (b ∷ text) =
    b ∷ in_bytes_from (quoted_behind quoted b) (pending_at quoted (b ∷ text)) text

-- a test that asks for the bytes of options in place of their texts
abbrev pub test_by_bytes : List ℕ → List ℕ
test_by_bytes text = in_bytes_from false [] text
