-- A field of text is read as an option of text.
use Rattle.std.proofs.Common.{◌≡◌, ◌∙◌, ℕ, suc, ◌<◌, Bool, true, false, not, ◌&&◌, List, [], ◌∷◌, ◌++◌, length, reverse, Option, Some, None, option_and_then, if◌then◌else◌, inl, inr, refl, sym, ap, arith, append-nil, eqb-true, ne_eqb}
use Rattle.std.specs.Prelude.{◌==◌}
use Rattle.std.specs.List.{AllByRecursion, onto_first}
use Rattle.std.proofs.lemmas.Bool.{and_cases, and_left, and_parts, and_right, cases_Bool, true≢false}
use Rattle.std.proofs.lemmas.List.{reverse-append, reverse-reverse}
use Rattle.kd_expr.specs.Lexical.{a_blank}
use Rattle.kd_expr.specs.Lexing.{behind_of}
use Rattle.kd_values.specs.declared.field_type.FieldType.TheVariants as fields
use Rattle.kd_values.specs.Fields.{field_spelled, parts_behind, values_by_type}
use Rattle.kd_values.specs.Laws.{TextFieldReads}
use Rattle.kd_values.specs.Parts.{trimmed}
use Rattle.kd_values.specs.Signs.{if_any, sign_before, signs_read}
use Rattle.kd_values.proofs.Commas.{some_parts}

-- ---- how many parts

length_onto : (b : ℕ) (parts : List (List ℕ)) → 0 < length parts → length (onto_first b parts) ≡ length parts
length_onto b [] some = absurd (omega (arith, some))
length_onto b (part ∷ parts) some = refl

-- a byte that ends no part
kept : (escaped : Bool) (b : ℕ) (text : List ℕ) → (b == 44 && not escaped) ≡ false → parts_behind escaped (b ∷ text) ≡ onto_first b (parts_behind (b == 92) text)
kept escaped b text other = rw other refl

length_kept : (escaped : Bool) (b : ℕ) (text : List ℕ) → (b == 44 && not escaped) ≡ false → length (parts_behind escaped (b ∷ text)) ≡ length (parts_behind (b == 92) text)
length_kept escaped b text other =
    ap length (kept escaped b text other) ∙ length_onto b (parts_behind (b == 92) text) (some_parts (b == 92) text)

length_ended : (escaped : Bool) (b : ℕ) (text : List ℕ) → (b == 44 && not escaped) ≡ true → length (parts_behind escaped (b ∷ text)) ≡ suc (length (parts_behind false text))
length_ended escaped b text is = rw is refl

-- ---- one part

one_is_whole : (escaped : Bool) (text : List ℕ) → length (parts_behind escaped text) ≡ 1 → parts_behind escaped text ≡ text ∷ []
one_is_whole escaped [] one = refl
one_is_whole escaped (b ∷ text) one =
    elim (cases_Bool (b == 44 && not escaped)) as (λ _. parts_behind escaped (b ∷ text) ≡ (b ∷ text) ∷ []) [
      | inl is ↦ absurd (omega (arith, one, length_ended escaped b text is, some_parts false text))
      | inr other ↦ kept escaped b text other ∙ ap (onto_first b) (one_is_whole (b == 92) text (sym (length_kept escaped b text other) ∙ one))
    ]

-- ---- several parts

-- before a byte that is no comma it does not count whether there is a backslash
length_plain : (escaped : Bool) (c : ℕ) (text : List ℕ) → (c == 44) ≡ false → length (parts_behind escaped (c ∷ text)) ≡ length (parts_behind false (c ∷ text))
length_plain escaped c text other =
    length_kept escaped c text (and_left (c == 44) (not escaped) other) ∙ sym (length_kept false c text (and_left (c == 44) true other))

-- a comma behind a backslash ends no part
length_escaped : (b c : ℕ) (text : List ℕ) → (b == 92 && c == 44) ≡ true → length (parts_behind (b == 92) (c ∷ text)) ≡ length (parts_behind false text)
length_escaped b c text is =
    let both = and_parts (b == 92) (c == 44) is in
    let other : (c == 92) ≡ false = ne_eqb c 92 (λ e. absurd (omega (arith, e, eqb-true c 44 both.1))) in
    ap (λ e. length (parts_behind e (c ∷ text))) both.0
    ∙ length_kept true c text (and_right (c == 44) false refl)
    ∙ ap (λ e. length (parts_behind e text)) other

length_other : (b c : ℕ) (text : List ℕ) → (b == 92 && c == 44) ≡ false → length (parts_behind (b == 92) (c ∷ text)) ≡ length (parts_behind false (c ∷ text))
length_other b c text other =
    elim (and_cases (b == 92) (c == 44) other) as (λ _. length (parts_behind (b == 92) (c ∷ text)) ≡ length (parts_behind false (c ∷ text))) [
      | inl none ↦ ap (λ e. length (parts_behind e (c ∷ text))) none
      | inr plain ↦ length_plain (b == 92) c text plain
    ]

several_are_no_text : (text : List ℕ) → 1 < length (parts_behind false text) → signs_read text ≡ None
several_are_no_text [] some = absurd (omega (arith, some))
several_are_no_text (b ∷ []) some =
    elim (cases_Bool (b == 44)) as (λ _. signs_read (b ∷ []) ≡ None) [
      | inl is ↦ rw is refl
      | inr other ↦ absurd (omega (arith, some, length_kept false b [] (and_left (b == 44) true other)))
    ]
several_are_no_text (b ∷ c ∷ text) some = by (b == 92 && c == 44) (b == 44) refl refl (several_are_no_text text) (several_are_no_text (c ∷ text))
  where
    by : (t u : Bool) → (b == 92 && c == 44) ≡ t → (b == 44) ≡ u
        → (1 < length (parts_behind false text) → signs_read text ≡ None) → (1 < length (parts_behind false (c ∷ text)) → signs_read (c ∷ text) ≡ None)
        → (if t then sign_before 44 (signs_read text) else if u then None else sign_before b (signs_read (c ∷ text))) ≡ None
    by true true is comma one two = absurd (omega (arith, eqb-true b 92 (and_parts (b == 92) (c == 44) is).0, eqb-true b 44 comma))
    by true false is plain one two =
        let same = length_kept false b (c ∷ text) (and_left (b == 44) true plain) ∙ length_escaped b c text is in
        ap (sign_before 44) (one (omega (arith, some, same)))
    by false true other comma one two = refl
    by false false other plain one two =
        let same = length_kept false b (c ∷ text) (and_left (b == 44) true plain) ∙ length_other b c text other in
        ap (sign_before b) (two (omega (arith, some, same)))

-- ---- blanks

abbrev AreBlanks : List ℕ → Type 0
AreBlanks blanks = AllByRecursion (λ b. a_blank b ≡ true) blanks

-- a blank is no comma and no backslash
blank_is_plain : (b : ℕ) → a_blank b ≡ true → ((b == 44) ≡ false) × ((b == 92) ≡ false)
blank_is_plain b is = (
  ne_eqb b 44 (λ e. true≢false (sym is ∙ ap a_blank e)),
  ne_eqb b 92 (λ e. true≢false (sym is ∙ ap a_blank e)),
)

length_blank : (escaped : Bool) (b : ℕ) (text : List ℕ) → a_blank b ≡ true → length (parts_behind escaped (b ∷ text)) ≡ length (parts_behind false text)
length_blank escaped b text is =
    let plain = blank_is_plain b is in
    length_kept escaped b text (and_left (b == 44) (not escaped) plain.0) ∙ ap (λ e. length (parts_behind e text)) plain.1

-- blanks at the front
front_counts : (text : List ℕ) → length (parts_behind false (behind_of a_blank text)) ≡ length (parts_behind false text)
front_counts [] = refl
front_counts (b ∷ text) =
    elim (cases_Bool (a_blank b)) as (λ _. length (parts_behind false (behind_of a_blank (b ∷ text))) ≡ length (parts_behind false (b ∷ text))) [
      | inl is ↦ rw is (front_counts text ∙ sym (length_blank false b text is))
      | inr other ↦ rw other refl
    ]

blanks_are_one : (escaped : Bool) (blanks : List ℕ) → AreBlanks blanks → length (parts_behind escaped blanks) ≡ 1
blanks_are_one escaped [] are = refl
blanks_are_one escaped (b ∷ blanks) are = length_blank escaped b blanks are.0 ∙ blanks_are_one false blanks are.1

-- blanks at the end
end_counts : (escaped : Bool) (text blanks : List ℕ) → AreBlanks blanks → length (parts_behind escaped (text ++ blanks)) ≡ length (parts_behind escaped text)
end_counts escaped [] blanks are = blanks_are_one escaped blanks are
end_counts escaped (b ∷ text) blanks are =
    elim (cases_Bool (b == 44 && not escaped)) as (λ _. length (parts_behind escaped (b ∷ text ++ blanks)) ≡ length (parts_behind escaped (b ∷ text))) [
      | inl is ↦ length_ended escaped b (text ++ blanks) is ∙ ap suc (end_counts false text blanks are) ∙ sym (length_ended escaped b text is)
      | inr other ↦ length_kept escaped b (text ++ blanks) other ∙ end_counts (b == 92) text blanks are ∙ sym (length_kept escaped b text other)
    ]

-- what is known of a text and the blanks at its front
record IsBehindBlanks (text : List ℕ) : Type 0 where
  blanks : List ℕ
  are : AreBlanks blanks
  whole : text ≡ blanks ++ behind_of a_blank text

blanks_of : (text : List ℕ) → IsBehindBlanks text
blanks_of [] = record { blanks = []; are = tt; whole = refl }
blanks_of (b ∷ text) =
    elim (cases_Bool (a_blank b)) as (λ _. IsBehindBlanks (b ∷ text)) [
      | inl is ↦
          let more = blanks_of text in
          record { blanks = b ∷ more.blanks; are = (is, more.are); whole = rw is (ap (λ rest. b ∷ rest) more.whole) }
      | inr other ↦ record { blanks = []; are = tt; whole = rw other refl }
    ]

blanks_append : (xs ys : List ℕ) → AreBlanks xs → AreBlanks ys → AreBlanks (xs ++ ys)
blanks_append [] ys p q = q
blanks_append (x ∷ xs) ys p q = (p.0, blanks_append xs ys p.1 q)

blanks_reverse : (xs : List ℕ) → AreBlanks xs → AreBlanks (reverse xs)
blanks_reverse [] p = tt
blanks_reverse (x ∷ xs) p = rw (reverse-append (x ∷ []) xs) (blanks_append (reverse xs) (x ∷ []) (blanks_reverse xs p.1) (p.0, tt))

back_counts : (text : List ℕ) → length (parts_behind false (reverse (behind_of a_blank (reverse text)))) ≡ length (parts_behind false text)
back_counts text =
    let back = blanks_of (reverse text) in
    let left = reverse (behind_of a_blank (reverse text)) in
    let whole : text ≡ left ++ reverse back.blanks =
    sym (reverse-reverse text) ∙ ap reverse back.whole ∙ reverse-append back.blanks (behind_of a_blank (reverse text)) in
    sym (end_counts false left (reverse back.blanks) (blanks_reverse back.blanks back.are))
    ∙ ap (λ t. length (parts_behind false t)) (sym whole)

trimmed_counts : (text : List ℕ) → length (parts_behind false (trimmed text)) ≡ length (parts_behind false text)
trimmed_counts text = back_counts (behind_of a_blank text) ∙ front_counts text

-- ---- the law

only_value : (o : Option (List ℕ)) → option_and_then (λ first. Some (first ++ [])) o ≡ o
only_value None = refl
only_value (Some v) = ap Some (append-nil v)

abbrev no_bytes : Option (List ℕ)
no_bytes = None

no_value : (o : Option (List ℕ)) → option_and_then (λ (first : List ℕ). no_bytes) o ≡ no_bytes
no_value None = refl
no_value (Some v) = refl

pub text_field_reads : TextFieldReads
text_field_reads text = by (parts_behind false text) refl
  where
    by : (parts : List (List ℕ)) → parts_behind false text ≡ parts
        → values_by_type (fields.Text ∷ []) parts ≡ option_and_then if_any (signs_read (trimmed text))
    by [] is = absurd (omega (arith, some_parts false text, ap length is))
    by (part ∷ []) is =
        let whole = one_is_whole false text (ap length is) in
        ap (values_by_type (fields.Text ∷ [])) (sym is ∙ whole) ∙ only_value (field_spelled fields.Text (trimmed text))
    by (part ∷ second ∷ parts) is =
        let several : 1 < length (parts_behind false (trimmed text)) = omega (arith, trimmed_counts text, ap length is) in
        no_value (field_spelled fields.Text (trimmed part)) ∙ ap (option_and_then if_any) (sym (several_are_no_text (trimmed text) several))
