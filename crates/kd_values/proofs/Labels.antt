-- Names of domains read back, label by label.
use Rattle.std.proofs.Common.{◌≡◌, ◌∙◌, ℕ, ◌<◌, true, false, not, ◌&&◌, ◌||◌, List, [], ◌∷◌, ◌++◌, length, Some, None, append-nil, append_assoc, eqb-true, if◌then◌else◌, length-append, lt-ltb, ltb-true, le-leb, nat_le, nat_lt, option_and_then, refl, ap, ap₂, arith}
use Rattle.std.specs.Prelude.{◌==◌}
use Rattle.std.specs.List.{AllByRecursion, flat_map, list_all, onto_first, slice_split}
use Rattle.std.proofs.lemmas.Bool.{and_parts, eqb-false, not-true, or_parts}
use Rattle.memchr.specs.Find.{is_byte}
use Rattle.kd_names.specs.Pieces.{is_label, is_label_byte}
use Rattle.kd_names.specs.Values.{sign_text}
use Rattle.kd_values.specs.Names.{label_spelled, name_spelled, without_last_dot}
use Rattle.kd_values.specs.Parts.{values_in}
use Rattle.kd_values.proofs.Trims.{AreInner, inner_append, is_inner}

-- ---- bytes of labels

-- a byte that a label may have
pub record IsSign (b : ℕ) : Type 0 where
  pub above : 32 < b
  pub below : b < 127
  pub no_mark : (b == 34) ≡ false
  pub no_comma : (b == 44) ≡ false
  pub no_dot : (b == 46) ≡ false
  pub no_slash : (b == 92) ≡ false

pub sign_of : (b : ℕ) → is_label_byte b ≡ true → IsSign b
sign_of b is =
    let first = and_parts (nat_lt 32 b && nat_lt b 127) (not (b == 34 || b == 44 || b == 46 || b == 92)) is in
    let range = and_parts (nat_lt 32 b) (nat_lt b 127) first.0 in
    let last = or_parts (b == 34 || b == 44 || b == 46) (b == 92) (not-true (b == 34 || b == 44 || b == 46 || b == 92) first.1) in
    let third = or_parts (b == 34 || b == 44) (b == 46) last.0 in
    let two = or_parts (b == 34) (b == 44) third.0 in
    record {
      above = ltb-true 32 b range.0;
      below = ltb-true b 127 range.1;
      no_mark = two.0;
      no_comma = two.1;
      no_dot = third.1;
      no_slash = last.1;
    }

printed_sign : (b : ℕ) → IsSign b → sign_text b ≡ b ∷ []
unfolding sign_text
printed_sign b is =
    let low = le-leb 32 b (omega (arith, is.above)) in
    let high = le-leb b 126 (omega (arith, is.below)) in
    rw (is.no_mark, is.no_slash, low, high) refl

pub printed_signs : (label : List ℕ) → list_all is_label_byte label ≡ true → flat_map sign_text label ≡ label
printed_signs [] are = refl
printed_signs (b ∷ label) are =
    let parts = and_parts (is_label_byte b) (list_all is_label_byte label) are in
    ap₂ (λ x y. x ++ y) (printed_sign b (sign_of b parts.0)) (printed_signs label parts.1)

label_inner : (label : List ℕ) → list_all is_label_byte label ≡ true → AreInner label
label_inner [] are = tt
label_inner (b ∷ label) are =
    let parts = and_parts (is_label_byte b) (list_all is_label_byte label) are in
    let sign = sign_of b parts.0 in
    (is_inner b sign.above (λ e. eqb-false b 44 sign.no_comma e), label_inner label parts.1)

-- ---- labels between dots

abbrev pub dotted : List ℕ → List ℕ
dotted label = label ++ 46 ∷ []

abbrev pub piece : List ℕ → List ℕ
piece label = length label ∷ label

abbrev pub AreLabels : List (List ℕ) → Type 0
AreLabels labels = AllByRecursion (λ label. is_label (piece label) ≡ true) labels

-- the parts of the test of a label
pub record HasParts (n : ℕ) (label : List ℕ) : Type 0 where
  pub some : 0 < n
  pub size : length label ≡ n
  pub signs : list_all is_label_byte label ≡ true

pub parts_of : (n : ℕ) (label : List ℕ) → is_label (n ∷ label) ≡ true → HasParts n label
parts_of n label is =
    let three = and_parts (nat_lt 0 n && nat_le n 63 && length label == n) (list_all is_label_byte label) is in
    let two = and_parts (nat_lt 0 n && nat_le n 63) (length label == n) three.0 in
    let one = and_parts (nat_lt 0 n) (nat_le n 63) two.0 in
    record { some = ltb-true 0 n one.0; size = eqb-true (length label) n two.1; signs = three.1 }

split_plain : (label : List ℕ) → list_all is_label_byte label ≡ true → slice_split (is_byte 46) label ≡ label ∷ []
split_plain [] are = refl
split_plain (b ∷ label) are =
    let parts = and_parts (is_label_byte b) (list_all is_label_byte label) are in
    rw (sign_of b parts.0).no_dot (ap (onto_first b) (split_plain label parts.1))

split_dotted : (label rest : List ℕ) → list_all is_label_byte label ≡ true → slice_split (is_byte 46) (label ++ 46 ∷ rest) ≡ label ∷ slice_split (is_byte 46) rest
split_dotted [] rest are = refl
split_dotted (b ∷ label) rest are =
    let parts = and_parts (is_label_byte b) (list_all is_label_byte label) are in
    rw (sign_of b parts.0).no_dot (ap (onto_first b) (split_dotted label rest parts.1))

last_dot : (text : List ℕ) → without_last_dot (text ++ 46 ∷ []) ≡ text
last_dot [] = refl
last_dot (b ∷ []) = refl
last_dot (b ∷ c ∷ text) = ap (λ rest. b ∷ rest) (last_dot (c ∷ text))

inner_dot : (text : List ℕ) (b : ℕ) (rest : List ℕ) → without_last_dot (text ++ b ∷ rest) ≡ text ++ without_last_dot (b ∷ rest)
inner_dot [] b rest = refl
inner_dot (a ∷ []) b rest = refl
inner_dot (a ∷ c ∷ text) b rest = ap (λ more. a ∷ more) (inner_dot (c ∷ text) b rest)

first_kept : (b : ℕ) (text : List ℕ) → 0 < length text → without_last_dot (b ∷ text) ≡ b ∷ without_last_dot text
first_kept b [] some = absurd (omega (arith, some))
first_kept b (c ∷ text) some = refl

some_text : (label : List ℕ) (labels : List (List ℕ)) → 0 < length (flat_map dotted (label ∷ labels))
some_text label labels = omega (arith, length-append (dotted label) (flat_map dotted labels), length-append label (46 ∷ []))

split_labels : (label : List ℕ) (labels : List (List ℕ)) → AreLabels (label ∷ labels) → slice_split (is_byte 46) (without_last_dot (flat_map dotted (label ∷ labels))) ≡ label ∷ labels
split_labels label [] are =
    ap (λ t. slice_split (is_byte 46) (without_last_dot t)) (append-nil (dotted label))
    ∙ ap (slice_split (is_byte 46)) (last_dot label)
    ∙ split_plain label (parts_of (length label) label are.0).signs
split_labels label (next ∷ labels) are =
    let others = flat_map dotted (next ∷ labels) in
    ap (λ t. slice_split (is_byte 46) (without_last_dot t)) (append_assoc label (46 ∷ []) others)
    ∙ ap (slice_split (is_byte 46)) (inner_dot label 46 others ∙ ap (λ t. label ++ t) (first_kept 46 others (some_text next labels)))
    ∙ split_dotted label (without_last_dot others) (parts_of (length label) label are.0).signs
    ∙ ap (λ parts. label ∷ parts) (split_labels next labels are.1)

labels_read : (labels : List (List ℕ)) → AreLabels labels → values_in label_spelled labels ≡ Some (flat_map piece labels)
labels_read [] are = refl
labels_read (label ∷ labels) are =
    rw are.0 (ap (option_and_then (λ others. Some (piece label ++ others))) (labels_read labels are.1))

-- labels with a dot behind each are a name
pub name_reads : (label : List ℕ) (labels : List (List ℕ)) → AreLabels (label ∷ labels) → length (flat_map piece (label ∷ labels)) < 255
    → name_spelled (flat_map dotted (label ∷ labels)) ≡ Some (flat_map piece (label ∷ labels) ++ 0 ∷ [])
name_reads label labels are small =
    ap (option_and_then (λ v. if nat_lt (length v) 255 then Some (v ++ 0 ∷ []) else None))
    (ap (values_in label_spelled) (split_labels label labels are) ∙ labels_read (label ∷ labels) are)
    ∙ rw (lt-ltb (length (flat_map piece (label ∷ labels))) 255 small) refl

pub labels_inner : (labels : List (List ℕ)) → AreLabels labels → AreInner (flat_map dotted labels)
labels_inner [] are = tt
labels_inner (label ∷ labels) are =
    let dot : AreInner (46 ∷ []) = (is_inner 46 (omega arith) (λ e. absurd (omega (arith, e))), tt) in
    inner_append (dotted label) (flat_map dotted labels)
    (inner_append label (46 ∷ []) (label_inner label (parts_of (length label) label are.0).signs) dot) (labels_inner labels are.1)
