-- What the laws say of a text and its plain text.
use Rattle.std.specs.Prelude.{◌≡◌, ◌≢◌, ◌⊎◌, ℕ, true, false, nat_eq, codes, List, [], ◌∷◌, ◌++◌}
use Rattle.std.specs.List.{AllByRecursion, starts_with}
use Rattle.kd_plain.specs.Plain.{Span, Quoted, Comment, Endless, Single, a_json_space, a_closing_bracket, bracket_next, point_next}

-- what may stand for a byte with a text behind it: the byte, or for any but a line feed a space, or
-- a zero if the text begins with a point
abbrev pub MayStandFor : ℕ → List ℕ → ℕ → Type 0
MayStandFor b behind c =
    (c ≡ b)
    ⊎ ((b ≢ 10) × ((c ≡ 32) ⊎ ((c ≡ 48) × (starts_with nat_eq behind (codes ".") ≡ true))))

-- a text with a space, or a zero before a point, in place of some of its bytes, none of them a line
-- feed
abbrev pub IsBlankedText : List ℕ → List ℕ → Type 0
IsBlankedText [] [] = Unit {0}
IsBlankedText [] (c ∷ blanked) = ⊥
IsBlankedText (b ∷ text) [] = ⊥
IsBlankedText (b ∷ text) (c ∷ blanked) = MayStandFor b text c × IsBlankedText text blanked

-- spans of a text that has nothing that only Kea allows: no comment, no comma before a closing
-- bracket, and no white space right before a point
abbrev pub IsPlainAlready : List Span → Type 0
IsPlainAlready [] = Unit {0}
IsPlainAlready (Quoted bytes ∷ rest) = IsPlainAlready rest
IsPlainAlready (Comment bytes ∷ rest) = ⊥
IsPlainAlready (Endless bytes ∷ rest) = ⊥
IsPlainAlready (Single b ∷ rest) =
    (b ≡ 44 → bracket_next rest ≡ false)
    × (a_json_space b ≡ true → point_next rest ≡ false)
    × IsPlainAlready rest

-- a text without the signs that comments begin with
abbrev pub HasNoCommentSign : List ℕ → Type 0
HasNoCommentSign text = AllByRecursion (λ b. (b ≢ 35) × (b ≢ 47)) text

-- a text in which no comma has a closing bracket behind it, with nothing but white space between
abbrev pub HasNoLastComma : List ℕ → Type 0
HasNoLastComma text =
    (front space behind : List ℕ) (b : ℕ) → text ≡ front ++ 44 ∷ (space ++ b ∷ behind)
    → AllByRecursion (λ c. a_json_space c ≡ true) space → a_closing_bracket b ≡ false

-- a text in which no white space is right before a point
abbrev pub HasNoFirstPoint : List ℕ → Type 0
HasNoFirstPoint text =
    (front behind : List ℕ) (b : ℕ) → text ≡ front ++ b ∷ 46 ∷ behind → a_json_space b ≡ false
