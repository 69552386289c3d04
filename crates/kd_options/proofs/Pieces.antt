-- The pieces of a value join to the value again, and the pieces of items to the items (RFC 3396
-- section 7).
use Rattle.std.proofs.Common.{◌≡◌, ℕ, zero, suc, ◌+◌, ◌-◌, ◌*◌, ◌≤◌, false, List, [], ◌∷◌, ◌++◌, length, take, drop, refl, sym, ap, ◌∙◌, arith, eq-eqb, take-add, take_all, drop-drop}
use Rattle.std.specs.Prelude.{map, nat_eq}
use Rattle.std.specs.List.{flat_map, range_with_len, AllByRecursion, IsDistinct}
use Rattle.std.specs.Fork.{slice_chunk}
use Rattle.std.proofs.lemmas.Map.Keys.{IsDistinct-head, IsDistinct-tail}
use Rattle.kd_wire.specs.Area.{Piece}
use Rattle.kd_options.specs.Joined.{options_of}
use Rattle.kd_options.specs.Laws.{item_codes, item_options}
use Rattle.kd_options.specs.Reply.{piece_count, pieces_of}
use Rattle.kd_options.specs.declared.item.Item.{Item}
use Rattle.kd_options.proofs.Joins.{adds, content, flip, options_of-cons, without}

-- n pieces from the k-th on are n times 255 bytes
chunks_are : (value : List ℕ) (k n : ℕ) → flat_map (slice_chunk value 255) (range_with_len k n) ≡ take (n * 255) (drop (k * 255) value)
chunks_are value k zero = refl
chunks_are value k (suc n) =
    let first = drop (k * 255) value in
    let next : k * 255 + 255 ≡ (k + 1) * 255 = omega arith in
    let behind : drop ((k + 1) * 255) value ≡ drop 255 first = ap (λ j. drop j value) (sym next) ∙ sym (drop-drop 255 (k * 255) value) in
    let both : 255 + n * 255 ≡ suc n * 255 = omega arith in
    ap (λ x. take 255 first ++ x) (chunks_are value (k + 1) n ∙ ap (take (n * 255)) behind) ∙ sym (take-add 255 (n * 255) first) ∙ ap (λ m. take m first) both

-- all pieces of a value are the value
value_is : (value : List ℕ) → flat_map (slice_chunk value 255) (range_with_len 0 (piece_count (length value))) ≡ value
value_is value =
    let all : length value ≤ piece_count (length value) * 255 = omega arith in
    chunks_are value 0 (piece_count (length value)) ∙ take_all (piece_count (length value) * 255) value all

-- pieces of one code, before options without it, are one more option
options_of-one : (code : ℕ) (f : ℕ → List ℕ) (j : ℕ) (js : List ℕ) (pieces : List Piece) → content code (options_of pieces) ≡ [] → without code (options_of pieces) ≡ options_of pieces → options_of (map (λ k. (code, f k)) (j ∷ js) ++ pieces) ≡ (code, flat_map f (j ∷ js)) ∷ options_of pieces
options_of-one code f j [] pieces none out =
    options_of-cons (code, f j) pieces ∙ (λ i. (code, f j ++ none i) ∷ out i)
options_of-one code f j (k ∷ js) pieces none out =
    let first : adds (code, f j) ((code, flat_map f (k ∷ js)) ∷ options_of pieces) ≡ (code, f j ++ flat_map f (k ∷ js)) ∷ without code (options_of pieces) = rw (eq-eqb code code refl) refl in
    options_of-cons (code, f j) (map (λ l. (code, f l)) (k ∷ js) ++ pieces) ∙ ap (adds (code, f j)) (options_of-one code f k js pieces none out) ∙ first ∙ ap (λ o. (code, f j ++ flat_map f (k ∷ js)) ∷ o) out

-- options of items without a code have no value of it, and none of them is left out for it
content-none : (code : ℕ) (items : List Item) → AllByRecursion (λ c. nat_eq code c ≡ false) (item_codes items) → content code (item_options items) ≡ []
content-none code [] others = refl
content-none code (x ∷ items) others =
    rw (flip code x.code others.0) (content-none code items others.1)

without-none : (code : ℕ) (items : List Item) → AllByRecursion (λ c. nat_eq code c ≡ false) (item_codes items) → without code (item_options items) ≡ item_options items
without-none code [] others = refl
without-none code (x ∷ items) others =
    rw (flip code x.code others.0) (ap (λ o. (x.code, x.value) ∷ o) (without-none code items others.1))

-- the pieces of items with distinct codes join to the items
pub options_of-items : (items : List Item) → IsDistinct nat_eq (item_codes items) → options_of (flat_map pieces_of items) ≡ item_options items
options_of-items [] distinct = refl
options_of-items (x ∷ items) distinct =
    let others = IsDistinct-head nat_eq x.code (item_codes items) distinct in
    let rest = options_of-items items (IsDistinct-tail nat_eq x.code (item_codes items) distinct) in
    let pieces = flat_map pieces_of items in
    let chunk = slice_chunk x.value 255 in
    let count = piece_count (length x.value) in
    let some : count ≡ suc (count - 1) = omega arith in
    let one = options_of-one x.code chunk 0 (range_with_len 1 (count - 1)) pieces (ap (content x.code) rest ∙ content-none x.code items others) (ap (without x.code) rest ∙ without-none x.code items others ∙ sym rest) in
    let whole : flat_map chunk (range_with_len 0 (suc (count - 1))) ≡ x.value = ap (λ n. flat_map chunk (range_with_len 0 n)) (sym some) ∙ value_is x.value in
    ap (λ n. options_of (map (λ k. (x.code, chunk k)) (range_with_len 0 n) ++ pieces)) some ∙ one ∙ (λ i. (x.code, whole i) ∷ rest i)
