-- Bytes put one after another, and the pieces of a value.
use Rattle.std.proofs.Common.{◌≡◌, ℕ, zero, suc, max, replicate, ◌+◌, ◌*◌, ◌-◌, ◌<◌, ◌≤◌, min, List, [], ◌∷◌, ◌++◌, length, take, drop, sym, ap, ◌∙◌, arith, append_assoc, length-append, length-take, length-drop, drop-drop}
use Rattle.std.specs.Prelude.{map}
use Rattle.std.specs.List.{range_with_len}
use Rattle.std.proofs.Math.Seq.{take-append-add}
use Rattle.std.specs.Fork.{slice_chunk}
use Rattle.std.proofs.lemmas.List.{take_at, drop_at, append-nil, drop-replicate, take-append-drop, take-replicate, take_min}
use Rattle.std.proofs.lemmas.Grind.{flat_map-append}
use Rattle.std.proofs.lemmas.List.{map-append}
use Rattle.kd_wire.specs.Area.{Piece, piece, spelled}
use Rattle.kd_wire.specs.Put.{with_bytes_at}
use Rattle.kd_options.specs.Reply.{cost_of, first_text, padded, piece_count, pieces_text}

-- two puts side by side are one
pub put_then : (at : ℕ) (a b old mid new : List ℕ) (next : ℕ) → mid ≡ with_bytes_at at a old → next ≡ at + length a → new ≡ with_bytes_at next b mid → at + length a ≤ length old → new ≡ with_bytes_at at (a ++ b) old
put_then at a b old mid new next first place second fits =
    let front = take at old ++ a in
    let rest = drop (at + length a) old in
    let whole : mid ≡ front ++ rest = first in
    let size : length front ≡ next = length-append (take at old) a ∙ omega (arith, length-take at old, place) in
    let before : take next mid ≡ front = ap (take next) whole ∙ take_at front rest next size in
    let behind : drop (next + length b) mid ≡ drop (at + length (a ++ b)) old =
    sym (drop-drop (length b) next mid) ∙ ap (drop (length b)) (ap (drop next) whole ∙ drop_at front rest next size) ∙ drop-drop (length b) (at + length a) old
    ∙ ap (λ k. drop k old) (omega (arith, length-append a b)) in
    second ∙ ap (λ x. x ++ b ++ drop (next + length b) mid) before ∙ ap (λ x. front ++ b ++ x) behind ∙ ap (λ x. x ++ drop (at + length (a ++ b)) old) (append_assoc (take at old) a b)

-- nothing put
pub put_none : (at : ℕ) (old : List ℕ) → old ≡ with_bytes_at at [] old
put_none at old =
    let same : at + 0 ≡ at = omega arith in
    sym (ap (λ x. x ++ drop (at + 0) old) (append-nil (take at old)) ∙ ap (λ k. take at old ++ drop k old) same ∙ take-append-drop at old)

range_more : (a n : ℕ) → range_with_len a (n + 1) ≡ range_with_len a n ++ (a + n) ∷ []
range_more a zero = let none : a ≡ a + 0 = omega arith in λ i. none i ∷ []
range_more a (suc n) =
    let one : suc n + 1 ≡ suc (n + 1) = omega arith in
    let step : a + 1 + n ≡ a + suc n = omega arith in
    rw one (ap (λ r. a ∷ r) (range_more (a + 1) n ∙ ap (λ k. range_with_len (a + 1) n ++ k ∷ []) step))

pub first_text-more : (code : ℕ) (value : List ℕ) (k : ℕ) → first_text code value (k + 1) ≡ first_text code value k ++ spelled (piece code (slice_chunk value 255 k))
first_text-more code value k =
    let f : ℕ → Piece = λ j. (code, slice_chunk value 255 j) in
    let last : 0 + k ≡ k = omega arith in
    ap (λ r. pieces_text (map f r)) (range_more 0 k ∙ ap (λ j. range_with_len 0 k ++ j ∷ []) last)
    ∙ ap pieces_text (map-append f (range_with_len 0 k) (k ∷ []))
    ∙ flat_map-append (λ p. spelled (piece p.0 p.1)) (map f (range_with_len 0 k)) (f k ∷ [])
    ∙ ap (λ x. first_text code value k ++ x) (append-nil (spelled (piece code (slice_chunk value 255 k))))

length-chunk : (value : List ℕ) (k : ℕ) → length (slice_chunk value 255 k) ≡ min 255 (length value - k * 255)
length-chunk value k = length-take 255 (drop (k * 255) value) ∙ ap (min 255) (length-drop (k * 255) value)

-- the first k pieces are the first k times 255 bytes, and two more each
pub length-first_text : (code : ℕ) (value : List ℕ) (k : ℕ) → length (first_text code value k) ≡ 2 * k + min (255 * k) (length value)
length-first_text code value zero = omega arith
length-first_text code value (suc k) =
    let one : suc k ≡ k + 1 = omega arith in
    let piece_is = spelled (piece code (slice_chunk value 255 k)) in
    let sum : length (first_text code value k) + length piece_is ≡ 2 * suc k + min (255 * suc k) (length value) =
    omega (arith, length-first_text code value k, length-chunk value k) in
    ap (λ j. length (first_text code value j)) one ∙ ap length (first_text-more code value k) ∙ length-append (first_text code value k) piece_is ∙ sum

-- the slice that the code takes is the next piece
pub chunk_is : (value : List ℕ) (k to : ℕ) → to ≡ min (length value) (k * 255 + 255) → take (to - k * 255) (drop (k * 255) value) ≡ slice_chunk value 255 k
chunk_is value k to end =
    let width : to - k * 255 ≡ min 255 (length (drop (k * 255) value)) = omega (arith, end, length-drop (k * 255) value) in
    ap (λ n. take n (drop (k * 255) value)) width ∙ take_min 255 (drop (k * 255) value)

-- a piece with a number below the count begins within the value
pub begins_within : (n k : ℕ) → k < piece_count n → k * 255 ≤ n
begins_within n k less = omega (arith, less)

-- the pieces so far and the next cost no more than all
pub next_within : (code : ℕ) (value : List ℕ) (k : ℕ) → k < piece_count (length value) → length (first_text code value k) + (2 + length (slice_chunk value 255 k)) ≤ cost_of (length value)
next_within code value k less =
    omega (arith, length-first_text code value k, length-chunk value k, begins_within (length value) k less, less)

-- all pieces of a value cost what `cost_of` says
pub length-all_text : (code : ℕ) (value : List ℕ) → length (first_text code value (piece_count (length value))) ≡ cost_of (length value)
length-all_text code value =
    let n = length value in
    let all : n ≤ 255 * piece_count n = omega arith in
    omega (arith, length-first_text code value (piece_count n), all)

-- what is put after a header of 240 bytes comes after it
pub behind_header : (head body old first new : List ℕ) → length head ≡ 240 → first ≡ head ++ drop 240 old → new ≡ with_bytes_at 240 body first → new ≡ (head ++ body) ++ drop (length (head ++ body)) old
behind_header head body old first new size is put =
    let front : take 240 first ≡ head = ap (take 240) is ∙ take_at head (drop 240 old) 240 size in
    let place : 240 + length body ≡ length (head ++ body) = omega (arith, size, length-append head body) in
    let behind : drop (240 + length body) first ≡ drop (length (head ++ body)) old =
    sym (drop-drop (length body) 240 first) ∙ ap (drop (length body)) (ap (drop 240) is ∙ drop_at head (drop 240 old) 240 size) ∙ drop-drop (length body) 240 old ∙ ap (λ k. drop k old) place in
    put ∙ ap (λ x. x ++ body ++ drop (240 + length body) first) front ∙ ap (λ x. head ++ body ++ x) behind

-- zeros up to 300 bytes remain of a room of zeros
pub padded_is : (text : List ℕ) (room end : ℕ) → end ≡ length text → length text ≤ room → 300 ≤ room → take (max end 300) (text ++ drop end (replicate room 0)) ≡ padded text
padded_is text room end place within least =
    let count : max end 300 ≡ length text + (300 - length text) = omega (arith, place) in
    let fits : 300 - length text ≤ room - end = omega (arith, place, within, least) in
    ap (λ n. take n (text ++ drop end (replicate room 0))) count ∙ take-append-add text (drop end (replicate room 0)) (300 - length text)
    ∙ ap (λ x. text ++ take (300 - length text) x) (drop-replicate end room 0) ∙ ap (λ x. text ++ x) (take-replicate (300 - length text) (room - end) 0 fits)
