-- Printed lists read back.
use Rattle.std.proofs.Common.{◌≡◌, ◌∙◌, ℕ, ◌%◌, ◌<◌, suc, List, [], ◌∷◌, ◌++◌, length, Option, Some, append-nil, option_and_then, refl, ap, arith}
use Rattle.std.specs.List.{onto_first, slice_split}
use Rattle.std.proofs.lemmas.List.Splits.{length-slice_split}
use Rattle.hex.specs.Hex.{IsBytes}
use Rattle.memchr.specs.Find.{is_byte}
use Rattle.kd_expr.specs.Lexing.{address_read}
use Rattle.kd_names.specs.Values.{addresses_behind, addresses_text, dotted_text}
use Rattle.kd_values.specs.Parts.{trimmed, values_between_commas, values_in}
use Rattle.kd_values.proofs.Trims.{AreInner, inner_first, inner_split, inner_trimmed}
use Rattle.kd_values.proofs.Dotted.{dotted_inner, dotted_reads}

-- what goes on behind any text of a value gives the values behind its value
abbrev pub GoesOn : (List ℕ → Option (List ℕ)) → List ℕ → List ℕ → Type 0
GoesOn value text more = (t v : List ℕ) → AreInner t → value t ≡ Some v → values_in (λ part. value (trimmed part)) (slice_split (is_byte 44) (t ++ text)) ≡ Some (v ++ more)

-- a text that is a value, and then others
pub one_then : (value : List ℕ → Option (List ℕ)) (t v : List ℕ) (parts : List (List ℕ)) (more : List ℕ) → AreInner t → value t ≡ Some v → values_in (λ part. value (trimmed part)) parts ≡ Some more → values_in (λ part. value (trimmed part)) (t ∷ parts) ≡ Some (v ++ more)
one_then value t v parts more inner is others =
    ap (λ o. option_and_then (λ first. option_and_then (λ rest. Some (first ++ rest)) (values_in (λ part. value (trimmed part)) parts)) o) (ap value (inner_trimmed t inner) ∙ is)
    ∙ ap (option_and_then (λ rest. Some (v ++ rest))) others

-- a space before a part does not count
pub spaced : (value : List ℕ → Option (List ℕ)) (parts : List (List ℕ)) → 0 < length parts → values_in (λ part. value (trimmed part)) (onto_first 32 parts) ≡ values_in (λ part. value (trimmed part)) parts
spaced value [] none = absurd (omega (arith, none))
spaced value (part ∷ parts) some = refl

pub goes_on_none : (value : List ℕ → Option (List ℕ)) → GoesOn value [] []
goes_on_none value t v inner is =
    ap (λ x. values_in (λ part. value (trimmed part)) (slice_split (is_byte 44) x)) (append-nil t)
    ∙ ap (values_in (λ part. value (trimmed part))) (inner_split t inner)
    ∙ one_then value t v [] [] inner is refl

pub goes_on_more : (value : List ℕ → Option (List ℕ)) (u x text more : List ℕ) → AreInner u → value u ≡ Some x → GoesOn value text more → GoesOn value (44 ∷ 32 ∷ (u ++ text)) (x ++ more)
goes_on_more value u x text more inner_u is_u goes t v inner is =
    let some : 0 < length (slice_split (is_byte 44) (u ++ text)) = omega (arith, length-slice_split (is_byte 44) (u ++ text)) in
    ap (values_in (λ part. value (trimmed part))) (inner_first t (32 ∷ (u ++ text)) inner)
    ∙ one_then value t v (slice_split (is_byte 44) (32 ∷ (u ++ text))) (x ++ more) inner is
    (spaced value (slice_split (is_byte 44) (u ++ text)) some ∙ goes u x inner_u is_u)

-- addresses
addresses_go_on : (bytes : List ℕ) → length bytes % 4 ≡ 0 → IsBytes bytes → GoesOn address_read (addresses_behind bytes) bytes
unfolding addresses_behind
addresses_go_on [] whole are = goes_on_none address_read
addresses_go_on (a ∷ []) whole are = absurd (omega (arith, whole))
addresses_go_on (a ∷ b ∷ []) whole are = absurd (omega (arith, whole))
addresses_go_on (a ∷ b ∷ c ∷ []) whole are = absurd (omega (arith, whole))
addresses_go_on (a ∷ b ∷ c ∷ d ∷ rest) whole are =
    goes_on_more address_read (dotted_text a b c d) (a ∷ b ∷ c ∷ d ∷ []) (addresses_behind rest) rest
    (dotted_inner a b c d (are 0) (are 1) (are 2) (are 3)) (dotted_reads a b c d (are 0) (are 1) (are 2) (are 3))
    (addresses_go_on rest (omega (arith, whole)) (λ i. are (suc (suc (suc (suc i))))))

pub addresses_read : (bytes : List ℕ) → 0 < length bytes → length bytes % 4 ≡ 0 → IsBytes bytes → values_between_commas address_read (addresses_text bytes) ≡ Some bytes
unfolding addresses_text
addresses_read [] some whole are = absurd (omega (arith, some))
addresses_read (a ∷ []) some whole are = absurd (omega (arith, whole))
addresses_read (a ∷ b ∷ []) some whole are = absurd (omega (arith, whole))
addresses_read (a ∷ b ∷ c ∷ []) some whole are = absurd (omega (arith, whole))
addresses_read (a ∷ b ∷ c ∷ d ∷ rest) some whole are =
    addresses_go_on rest (omega (arith, whole)) (λ i. are (suc (suc (suc (suc i))))) (dotted_text a b c d) (a ∷ b ∷ c ∷ d ∷ [])
    (dotted_inner a b c d (are 0) (are 1) (are 2) (are 3)) (dotted_reads a b c d (are 0) (are 1) (are 2) (are 3))
