-- Printed names of domains read back.
use Rattle.std.proofs.Common.{◌≡◌, ◌∙◌, ℕ, zero, suc, ◌+◌, ◌≤◌, ◌<◌, Bool, true, false, cond, ◌&&◌, List, [], ◌∷◌, ◌++◌, length, Option, Some, append-nil, append_assoc, codes, drop, eqb-true, if◌then◌else◌, length-append, ltb-true, nat_lt, count_by, refl, sym, ap, arith, take, take-append-drop}
use Rattle.std.specs.Prelude.{◌==◌}
use Rattle.std.specs.List.{AllByRecursion, flat_map, slice_split}
use Rattle.std.proofs.lemmas.Bool.{and_parts, false≢true}
use Rattle.std.proofs.lemmas.List.Concat.{flat_map-append}
use Rattle.std.proofs.lemmas.List.Splits.{length-slice_split}
use Rattle.std.proofs.lemmas.List.Sums.{sum_by-append}
use Rattle.memchr.specs.Find.{is_byte}
use Rattle.kd_names.specs.Pieces.{are_names, go_on_as_names, is_end, is_label, labels_of, pieces_behind}
use Rattle.kd_names.specs.Values.{names_text, sign_text}
use Rattle.kd_values.specs.Names.{name_spelled}
use Rattle.kd_values.specs.Parts.{trimmed, values_between_commas, values_in}
use Rattle.kd_values.proofs.Labels.{AreLabels, dotted, labels_inner, name_reads, parts_of, piece, printed_signs}
use Rattle.kd_values.proofs.Lists.{goes_on_none, one_then, spaced}
use Rattle.kd_values.proofs.Trims.{inner_first, inner_trimmed}

-- pieces one after another are the bytes
pub pieces_whole : (extent : ℕ → ℕ) (skip : ℕ) (bytes : List ℕ) → flat_map (λ p. p) (pieces_behind extent skip bytes) ≡ drop skip bytes
pieces_whole extent zero [] = refl
pieces_whole extent (suc skip) [] = refl
pieces_whole extent zero (b ∷ bytes) =
    ap (λ rest. b ∷ (take (extent b) bytes ++ rest)) (pieces_whole extent (extent b) bytes)
    ∙ ap (λ rest. b ∷ rest) (take-append-drop (extent b) bytes)
pieces_whole extent (suc skip) (b ∷ bytes) = pieces_whole extent skip bytes

-- the empty label has no bytes
abbrev pub IsBareEnd : List ℕ → Type 0
IsBareEnd p = is_end p ≡ true → p ≡ 0 ∷ []

bare_ends : (skip : ℕ) (bytes : List ℕ) → AllByRecursion IsBareEnd (pieces_behind (λ n. n) skip bytes)
bare_ends skip [] = tt
bare_ends zero (b ∷ bytes) = (λ is. ap (λ n. n ∷ take n bytes) (eqb-true b 0 is), bare_ends b bytes)
bare_ends (suc skip) (b ∷ bytes) = bare_ends skip bytes

labels_push : (labels : List (List ℕ)) (label : List ℕ) → AreLabels labels → is_label (piece label) ≡ true → AreLabels (labels ++ label ∷ [])
labels_push [] label are is = (is, tt)
labels_push (first ∷ labels) label are is = (are.0, labels_push labels label are.1 is)

-- labels that are printed so far, and those to come, are read as the bytes of both
abbrev Goes : (List ℕ → Option (List ℕ)) → List (List ℕ) → List (List ℕ) → Type 0
Goes value labels pieces = value (flat_map dotted labels ++ names_text pieces) ≡ Some (flat_map piece labels ++ flat_map (λ p. p) pieces)

abbrev as_names : List ℕ → Option (List ℕ)
as_names text = values_in (λ part. name_spelled (trimmed part)) (slice_split (is_byte 44) text)

abbrev NamesGo : List (List ℕ) → List (List ℕ) → Type 0
NamesGo labels pieces = Goes as_names labels pieces

-- what is known of them
record MayGo (labels pieces : List (List ℕ)) : Type 0 where
  are : AreLabels labels
  bare : AllByRecursion IsBareEnd pieces
  small : length (flat_map piece labels) < 255
  go : go_on_as_names (length (flat_map piece labels)) pieces ≡ true
  some : 0 < length labels + length pieces

-- the last name ends
last_ends : (label : List ℕ) (labels : List (List ℕ)) (p : List ℕ) → AreLabels (label ∷ labels) → length (flat_map piece (label ∷ labels)) < 255 → is_end p ≡ true → p ≡ 0 ∷ [] → NamesGo (label ∷ labels) (p ∷ [])
last_ends label labels p are small ends is =
    let text = flat_map dotted (label ∷ labels) in
    let bytes = flat_map piece (label ∷ labels) in
    rw ends
    (goes_on_none name_spelled text (bytes ++ 0 ∷ []) (labels_inner (label ∷ labels) are) (name_reads label labels are small)
    ∙ ap Some (append_assoc bytes (0 ∷ []) [] ∙ ap (λ q. bytes ++ (q ++ [])) (sym is)))

-- a name ends before others
name_ends : (label : List ℕ) (labels : List (List ℕ)) (p q : List ℕ) (pieces : List (List ℕ)) → AreLabels (label ∷ labels) → length (flat_map piece (label ∷ labels)) < 255 → is_end p ≡ true → p ≡ 0 ∷ []
    → NamesGo [] (q ∷ pieces) → NamesGo (label ∷ labels) (p ∷ q ∷ pieces)
name_ends label labels p q pieces are small ends is others =
    let text = flat_map dotted (label ∷ labels) in
    let bytes = flat_map piece (label ∷ labels) in
    let rest = names_text (q ∷ pieces) in
    let some : 0 < length (slice_split (is_byte 44) rest) = omega (arith, length-slice_split (is_byte 44) rest) in
    rw ends
    (ap (values_in (λ part. name_spelled (trimmed part))) (inner_first text (32 ∷ rest) (labels_inner (label ∷ labels) are))
    ∙ one_then name_spelled text (bytes ++ 0 ∷ []) (slice_split (is_byte 44) (32 ∷ rest)) (flat_map (λ p. p) (q ∷ pieces))
    (labels_inner (label ∷ labels) are) (name_reads label labels are small) (spaced name_spelled (slice_split (is_byte 44) rest) some ∙ others)
    ∙ ap Some (append_assoc bytes (0 ∷ []) (flat_map (λ p. p) (q ∷ pieces)) ∙ ap (λ e. bytes ++ (e ++ flat_map (λ p. p) (q ∷ pieces))) (sym is)))

-- a label goes behind those that there are
label_goes : (value : List ℕ → Option (List ℕ)) (labels : List (List ℕ)) (n : ℕ) (label : List ℕ) (pieces : List (List ℕ)) → is_end (n ∷ label) ≡ false → is_label (n ∷ label) ≡ true
    → Goes value (labels ++ label ∷ []) pieces → Goes value labels ((n ∷ label) ∷ pieces)
label_goes value labels n label pieces inner is later =
    let parts = parts_of n label is in
    let text = flat_map dotted labels in
    let bytes = flat_map piece labels in
    let rest = names_text pieces in
    let more = flat_map (λ p. p) pieces in
    let texts : text ++ ((flat_map sign_text label ++ codes ".") ++ rest) ≡ flat_map dotted (labels ++ label ∷ []) ++ rest =
    ap (λ l. text ++ ((l ++ codes ".") ++ rest)) (printed_signs label parts.signs)
    ∙ sym (append_assoc text (dotted label) rest)
    ∙ ap (λ t. t ++ rest) (ap (λ t. text ++ t) (sym (append-nil (dotted label))) ∙ sym (flat_map-append dotted labels (label ∷ []))) in
    let values : flat_map piece (labels ++ label ∷ []) ++ more ≡ bytes ++ ((n ∷ label) ++ more) =
    ap (λ v. v ++ more) (flat_map-append piece labels (label ∷ []) ∙ ap (λ v. bytes ++ v) (append-nil (piece label)))
    ∙ append_assoc bytes (piece label) more
    ∙ ap (λ m. bytes ++ ((m ∷ label) ++ more)) parts.size in
    rw inner (ap value texts ∙ later ∙ ap Some values)

-- how many bytes labels have with one more
one_more : (labels : List (List ℕ)) (label : List ℕ) → length (flat_map piece (labels ++ label ∷ [])) ≡ length (flat_map piece labels) + suc (length label)
one_more labels label =
    ap length (flat_map-append piece labels (label ∷ []) ∙ ap (λ v. flat_map piece labels ++ v) (append-nil (piece label)))
    ∙ length-append (flat_map piece labels) (piece label)

may_push : (labels : List (List ℕ)) (n : ℕ) (label : List ℕ) (pieces : List (List ℕ)) → MayGo labels ((n ∷ label) ∷ pieces) → is_label (n ∷ label) ≡ true
    → nat_lt (length (flat_map piece labels) + length (n ∷ label)) 255 ≡ true → go_on_as_names (length (flat_map piece labels) + length (n ∷ label)) pieces ≡ true → MayGo (labels ++ label ∷ []) pieces
may_push labels n label pieces may is small go = record {
  are = labels_push labels label may.are (ap (λ m. is_label (m ∷ label)) (parts_of n label is).size ∙ is);
  bare = may.bare.1;
  small = omega (arith, one_more labels label, ltb-true (length (flat_map piece labels) + length (n ∷ label)) 255 small);
  go = ap (λ size. go_on_as_names size pieces) (one_more labels label) ∙ go;
  some = omega (arith, length-append labels (label ∷ []));
}

end_goes : (labels : List (List ℕ)) (p : List ℕ) (pieces : List (List ℕ)) → MayGo labels (p ∷ pieces) → is_end p ≡ true → (nat_lt 0 (length (flat_map piece labels)) && go_on_as_names 0 pieces) ≡ true
    → (MayGo [] pieces → NamesGo [] pieces) → NamesGo labels (p ∷ pieces)
end_goes [] p pieces may ends go later = absurd (false≢true (and_parts false (go_on_as_names 0 pieces) go).0)
end_goes (label ∷ labels) p [] may ends go later = last_ends label labels p may.are may.small ends (may.bare.0 ends)
end_goes (label ∷ labels) p (q ∷ pieces) may ends go later =
    let more = and_parts (nat_lt 0 (length (flat_map piece (label ∷ labels)))) (go_on_as_names 0 (q ∷ pieces)) go in
    name_ends label labels p q pieces may.are may.small ends (may.bare.0 ends)
    (later (record { are = tt; bare = may.bare.1; small = omega arith; go = more.1; some = omega arith }))

inner_goes : (value : List ℕ → Option (List ℕ)) (labels : List (List ℕ)) (p : List ℕ) (pieces : List (List ℕ)) → MayGo labels (p ∷ pieces) → is_end p ≡ false
    → ((is_label p && nat_lt (length (flat_map piece labels) + length p) 255) && go_on_as_names (length (flat_map piece labels) + length p) pieces) ≡ true
    → ((next : List (List ℕ)) → MayGo next pieces → Goes value next pieces) → Goes value labels (p ∷ pieces)
inner_goes value labels [] pieces may inner go later = absurd (false≢true go)
inner_goes value labels (n ∷ label) pieces may inner go later =
    let size = length (flat_map piece labels) + length (n ∷ label) in
    let two = and_parts (is_label (n ∷ label) && nat_lt size 255) (go_on_as_names size pieces) go in
    let one = and_parts (is_label (n ∷ label)) (nat_lt size 255) two.0 in
    label_goes value labels n label pieces inner one.0 (later (labels ++ label ∷ []) (may_push labels n label pieces may one.0 one.1 two.1))

names_go : (pieces labels : List (List ℕ)) → MayGo labels pieces → NamesGo labels pieces
names_go [] [] may = absurd (omega (arith, may.some))
names_go [] (label ∷ labels) may = absurd (omega (arith, eqb-true (length (flat_map piece (label ∷ labels))) 0 may.go))
names_go (p ∷ pieces) labels may = by (is_end p) refl may.go (names_go pieces)
  where
    by : (t : Bool) → is_end p ≡ t
        → (if t then nat_lt 0 (length (flat_map piece labels)) && go_on_as_names 0 pieces
        else is_label p && nat_lt (length (flat_map piece labels) + length p) 255 && go_on_as_names (length (flat_map piece labels) + length p) pieces) ≡ true
        → ((next : List (List ℕ)) → MayGo next pieces → NamesGo next pieces) → NamesGo labels (p ∷ pieces)
    by true ends go later = end_goes labels p pieces may ends go (later [])
    by false inner go later = inner_goes as_names labels p pieces may inner go later

-- at first no label is printed
may_begin : (value : List ℕ) → are_names value ≡ true → MayGo [] (labels_of value)
may_begin [] are = absurd (false≢true are)
may_begin (b ∷ value) are = record {
  are = tt;
  bare = bare_ends 0 (b ∷ value);
  small = omega arith;
  go = (and_parts (nat_lt 0 (length (b ∷ value))) (go_on_as_names 0 (labels_of (b ∷ value))) are).1;
  some = omega arith;
}

pub names_read : (value : List ℕ) → are_names value ≡ true → values_between_commas name_spelled (names_text (labels_of value)) ≡ Some value
names_read value are = names_go (labels_of value) [] (may_begin value are) ∙ ap Some (pieces_whole (λ n. n) 0 value)

-- ---- one name

zeros_append : (xs ys : List ℕ) → count_by (λ b. b == 0) (xs ++ ys) ≡ count_by (λ b. b == 0) xs + count_by (λ b. b == 0) ys
zeros_append xs ys = sum_by-append (λ b. cond (b == 0) 1 0) xs ys

-- names that go on have a zero
ends_exist : (pieces : List (List ℕ)) (size : ℕ) → AllByRecursion IsBareEnd pieces → go_on_as_names size pieces ≡ true → 0 < size + length pieces → 1 ≤ count_by (λ b. b == 0) (flat_map (λ p. p) pieces)
ends_exist [] size bare go some = absurd (omega (arith, some, eqb-true size 0 go))
ends_exist ([] ∷ pieces) size bare go some = absurd (false≢true go)
ends_exist ((n ∷ label) ∷ pieces) size bare go some = by (n == 0) refl go (ends_exist pieces (size + length (n ∷ label)) bare.1)
  where
    by : (t : Bool) → (n == 0) ≡ t
        → (if t then nat_lt 0 size && go_on_as_names 0 pieces
        else is_label (n ∷ label) && nat_lt (size + length (n ∷ label)) 255 && go_on_as_names (size + length (n ∷ label)) pieces) ≡ true
        → (go_on_as_names (size + length (n ∷ label)) pieces ≡ true → 0 < size + length (n ∷ label) + length pieces → 1 ≤ count_by (λ b. b == 0) (flat_map (λ p. p) pieces))
        → 1 ≤ count_by (λ b. b == 0) ((n ∷ label) ++ flat_map (λ p. p) pieces)
    by true ends go later =
        let one : count_by (λ b. b == 0) (n ∷ label) ≡ 1 = ap (λ v. count_by (λ b. b == 0) v) (bare.0 ends) in
        omega (arith, zeros_append (n ∷ label) (flat_map (λ p. p) pieces), one)
    by false inner go later =
        let more = and_parts (is_label (n ∷ label) && nat_lt (size + length (n ∷ label)) 255) (go_on_as_names (size + length (n ∷ label)) pieces) go in
        omega (arith, zeros_append (n ∷ label) (flat_map (λ p. p) pieces), later more.1 (omega arith))

abbrev as_name : List ℕ → Option (List ℕ)
as_name text = name_spelled (trimmed text)

one_ends : (labels : List (List ℕ)) (p : List ℕ) (pieces : List (List ℕ)) → MayGo labels (p ∷ pieces) → is_end p ≡ true → (nat_lt 0 (length (flat_map piece labels)) && go_on_as_names 0 pieces) ≡ true
    → count_by (λ b. b == 0) (p ++ flat_map (λ p. p) pieces) ≤ 1 → Goes as_name labels (p ∷ pieces)
one_ends [] p pieces may ends go few = absurd (false≢true (and_parts false (go_on_as_names 0 pieces) go).0)
one_ends (label ∷ labels) p [] may ends go few =
    let text = flat_map dotted (label ∷ labels) in
    let bytes = flat_map piece (label ∷ labels) in
    rw ends
    (ap as_name (append-nil text)
    ∙ ap name_spelled (inner_trimmed text (labels_inner (label ∷ labels) may.are))
    ∙ name_reads label labels may.are may.small
    ∙ ap (λ q. Some (bytes ++ q)) (sym (append-nil p ∙ may.bare.0 ends)))
one_ends (label ∷ labels) p (q ∷ pieces) may ends go few =
    let one : count_by (λ b. b == 0) p ≡ 1 = ap (λ v. count_by (λ b. b == 0) v) (may.bare.0 ends) in
    let more = and_parts (nat_lt 0 (length (flat_map piece (label ∷ labels)))) (go_on_as_names 0 (q ∷ pieces)) go in
    absurd (omega (arith, few, one, zeros_append p (flat_map (λ p. p) (q ∷ pieces)), ends_exist (q ∷ pieces) 0 may.bare.1 more.1 (omega arith)))

one_goes : (pieces labels : List (List ℕ)) → MayGo labels pieces → count_by (λ b. b == 0) (flat_map (λ p. p) pieces) ≤ 1 → Goes as_name labels pieces
one_goes [] [] may few = absurd (omega (arith, may.some))
one_goes [] (label ∷ labels) may few = absurd (omega (arith, eqb-true (length (flat_map piece (label ∷ labels))) 0 may.go))
one_goes (p ∷ pieces) labels may few = by (is_end p) refl may.go (λ next m. one_goes pieces next m (omega (arith, few, zeros_append p (flat_map (λ p. p) pieces))))
  where
    by : (t : Bool) → is_end p ≡ t
        → (if t then nat_lt 0 (length (flat_map piece labels)) && go_on_as_names 0 pieces
        else is_label p && nat_lt (length (flat_map piece labels) + length p) 255 && go_on_as_names (length (flat_map piece labels) + length p) pieces) ≡ true
        → ((next : List (List ℕ)) → MayGo next pieces → Goes as_name next pieces) → Goes as_name labels (p ∷ pieces)
    by true ends go later = one_ends labels p pieces may ends go few
    by false inner go later = inner_goes as_name labels p pieces may inner go later

pub name_reads_one : (value : List ℕ) → (are_names value && count_by (λ b. b == 0) value == 1) ≡ true → name_spelled (trimmed (names_text (labels_of value))) ≡ Some value
name_reads_one value fits =
    let parts = and_parts (are_names value) (count_by (λ b. b == 0) value == 1) fits in
    let whole = pieces_whole (λ n. n) 0 value in
    one_goes (labels_of value) [] (may_begin value parts.0)
    (omega (arith, ap (λ v. count_by (λ b. b == 0) v) whole, eqb-true (count_by (λ b. b == 0) value) 1 parts.1))
    ∙ ap Some whole
