-- How a text is cut into spans, one after another.
use Rattle.std.proofs.Common.{◌≡◌, ℕ, zero, suc, ◌+◌, ◌-◌, ◌<◌, Bool, true, false, ◌||◌, ◌&&◌, ◌==◌, nat_eq, List, [], ◌∷◌, ◌++◌, length, take, drop, Option, Some, None, refl, sym, ap, ◌∙◌, subst, arith, eqb-true}
use Rattle.std.specs.Prelude.{codes, flat_map}
use Rattle.std.specs.List.{starts_with, before_first, position_or_len}
use Rattle.std.proofs.lemmas.List.{append-nil, drop_at, take-append-drop}
use Rattle.kd_plain.specs.Plain.{Span, Quoted, Comment, Single, span_bytes, a_line_feed, string_size, size_with, block_of_size, block_comment, begins_line_comment, first_span, spans_behind, spans}

-- the spans behind the first n bytes are those of what follows them
pub spans_behind_is : (n : ℕ) (text : List ℕ) → spans_behind n text ≡ spans (drop n text)
unfolding spans_behind
spans_behind_is zero text = refl
spans_behind_is (suc n) [] = refl
spans_behind_is (suc n) (b ∷ text) = spans_behind_is n text

-- what follows a front that is not empty
rest_is : (b : ℕ) (bytes front rest : List ℕ) → b ∷ bytes ≡ front ++ rest → 0 < length front → drop (length front - 1) bytes ≡ rest
rest_is b bytes [] rest whole some = absurd (omega (arith, some))
rest_is b bytes (x ∷ front) rest whole some =
    let tail : bytes ≡ front ++ rest = cc in
    let size : length (x ∷ front) - 1 ≡ length front = omega arith in
    ap (λ n. drop n bytes) size ∙ ap (λ t. drop (length front) t) tail ∙ drop_at front rest (length front) refl

-- a text that begins with a span has that one and those of what follows it
pub spans_cut : (b : ℕ) (bytes : List ℕ) (span : Span) (rest : List ℕ) → first_span b bytes ≡ span → b ∷ bytes ≡ span_bytes span ++ rest → 0 < length (span_bytes span) → spans (b ∷ bytes) ≡ span ∷ spans rest
unfolding spans_behind
spans_cut b bytes span rest is whole some =
    ap (λ s. s ∷ spans_behind (length (span_bytes s) - 1) bytes) is
    ∙ ap (λ t. span ∷ t) (spans_behind_is (length (span_bytes span) - 1) bytes ∙ ap (λ t. spans t) (rest_is b bytes (span_bytes span) rest whole some))

-- which span it is, by the first bytes
pub first_quoted : (b : ℕ) (bytes : List ℕ) → (b == 34) ≡ true → first_span b bytes ≡ Quoted (b ∷ take (string_size bytes) bytes)
unfolding first_span
first_quoted b bytes is = rw is refl

pub first_comment : (b : ℕ) (bytes : List ℕ) → (b == 34) ≡ false → begins_line_comment (b ∷ bytes) ≡ true → first_span b bytes ≡ Comment (before_first a_line_feed (b ∷ bytes))
unfolding first_span
first_comment b bytes other is = rw (other, is) refl

pub first_block : (b : ℕ) (bytes : List ℕ) → (b == 34) ≡ false → begins_line_comment (b ∷ bytes) ≡ false → starts_with nat_eq (b ∷ bytes) (codes "/*") ≡ true → first_span b bytes ≡ block_comment (b ∷ bytes)
unfolding first_span
first_block b bytes other another is = rw (other, another, is) refl

pub first_single : (b : ℕ) (bytes : List ℕ) → (b == 34) ≡ false → begins_line_comment (b ∷ bytes) ≡ false → starts_with nat_eq (b ∷ bytes) (codes "/*") ≡ false → first_span b bytes ≡ Single b
unfolding first_span
first_single b bytes other another last = rw (other, another, last) refl

-- the bytes of a front of a text that is not empty, and what follows them
pub record IsFront (b : ℕ) (bytes front : List ℕ) : Type 0 where
  pub more : List ℕ
  pub rest : List ℕ
  pub is : front ≡ b ∷ more
  pub whole : bytes ≡ more ++ rest

front_taken : (b : ℕ) (bytes : List ℕ) (n : ℕ) → IsFront b bytes (b ∷ take n bytes)
front_taken b bytes n = record { more = take n bytes; rest = drop n bytes; is = refl; whole = sym (take-append-drop n bytes) }

left_true : (s t : Bool) → (s && t) ≡ true → s ≡ true
left_true true t h = refl
left_true false t h = h

-- a text that begins with a sign has its first byte
pub first_of_sign : (x : ℕ) (sign : List ℕ) (b : ℕ) (bytes : List ℕ) → starts_with nat_eq (b ∷ bytes) (x ∷ sign) ≡ true → b ≡ x
first_of_sign x sign b bytes h = sym (eqb-true x b (left_true _ _ h))

-- a text that begins with a comment does not begin with a line feed
pub comment_begins : (b : ℕ) (bytes : List ℕ) → begins_line_comment (b ∷ bytes) ≡ true → a_line_feed b ≡ false
comment_begins b bytes h = by (starts_with nat_eq (b ∷ bytes) (codes "#")) h refl
  where
    by : (k : Bool) → (k || starts_with nat_eq (b ∷ bytes) (codes "//")) ≡ true → starts_with nat_eq (b ∷ bytes) (codes "#") ≡ k → a_line_feed b ≡ false
    by true e is = ap (λ c. a_line_feed c) (first_of_sign 35 [] b bytes is)
    by false e is = ap (λ c. a_line_feed c) (first_of_sign 47 (47 ∷ []) b bytes e)

front_before : (b : ℕ) (bytes : List ℕ) → a_line_feed b ≡ false → IsFront b bytes (before_first a_line_feed (b ∷ bytes))
front_before b bytes other =
    let size : position_or_len a_line_feed (b ∷ bytes) ≡ suc (position_or_len a_line_feed bytes) = rw other (omega arith) in
    subst (λ n. IsFront b bytes (take n (b ∷ bytes))) (sym size) (front_taken b bytes (position_or_len a_line_feed bytes))

front_block : (b : ℕ) (bytes : List ℕ) (n : Option ℕ) → IsFront b bytes (span_bytes (block_of_size (b ∷ bytes) n))
front_block b bytes None = record { more = bytes; rest = []; is = refl; whole = sym (append-nil bytes) }
front_block b bytes (Some n) =
    let size : 2 + n ≡ suc (1 + n) = omega arith in
    subst (λ n. IsFront b bytes (take n (b ∷ bytes))) (sym size) (front_taken b bytes (1 + n))

-- the first span has the bytes of a front of the text
pub first_front : (b : ℕ) (bytes : List ℕ) → IsFront b bytes (span_bytes (first_span b bytes))
first_front b bytes =
    let bytes_of = λ (s : Span). IsFront b bytes (span_bytes s) in
    let is_comment : Bool = begins_line_comment (b ∷ bytes) in
    let is_block : Bool = starts_with nat_eq (b ∷ bytes) (codes "/*") in
    let at_block : (k : Bool) → (b == 34) ≡ false → is_comment ≡ false → is_block ≡ k → IsFront b bytes (span_bytes (first_span b bytes)) = λ k. elim k as (λ k. (b == 34) ≡ false → is_comment ≡ false → is_block ≡ k → IsFront b bytes (span_bytes (first_span b bytes))) [
      | true ↦ λ x y z. subst bytes_of (sym (first_block b bytes x y z)) (front_block b bytes (size_with (codes "*/") (drop 2 (b ∷ bytes))))
      | false ↦ λ x y z. subst bytes_of (sym (first_single b bytes x y z)) (front_taken b bytes 0)
    ] in
    let at_comment : (k : Bool) → (b == 34) ≡ false → is_comment ≡ k → IsFront b bytes (span_bytes (first_span b bytes)) = λ k. elim k as (λ k. (b == 34) ≡ false → is_comment ≡ k → IsFront b bytes (span_bytes (first_span b bytes))) [
      | true ↦ λ x y. subst bytes_of (sym (first_comment b bytes x y)) (front_before b bytes (comment_begins b bytes y))
      | false ↦ λ x y. at_block is_block x y refl
    ] in
    let at_quote : (k : Bool) → (b == 34) ≡ k → IsFront b bytes (span_bytes (first_span b bytes)) = λ k. elim k as (λ k. (b == 34) ≡ k → IsFront b bytes (span_bytes (first_span b bytes))) [
      | true ↦ λ x. subst bytes_of (sym (first_quoted b bytes x)) (front_taken b bytes (string_size bytes))
      | false ↦ λ x. at_comment is_comment x refl
    ] in
    at_quote (b == 34) refl

-- the bytes of the spans are those of the text
spans_whole : (n : ℕ) (text : List ℕ) → flat_map span_bytes (spans_behind n text) ≡ drop n text
unfolding spans_behind
spans_whole zero [] = refl
spans_whole (suc n) [] = refl
spans_whole (suc n) (b ∷ bytes) = spans_whole n bytes
spans_whole zero (b ∷ bytes) =
    let front = first_front b bytes in
    let size : length (span_bytes (first_span b bytes)) - 1 ≡ length front.more = rw front.is (omega arith) in
    ap (λ t. span_bytes (first_span b bytes) ++ t) (spans_whole (length (span_bytes (first_span b bytes)) - 1) bytes)
    ∙ ap (λ n. span_bytes (first_span b bytes) ++ drop n bytes) size
    ∙ ap (λ t. t ++ drop (length front.more) bytes) front.is
    ∙ ap (λ t. b ∷ (front.more ++ drop (length front.more) t)) front.whole
    ∙ ap (λ t. b ∷ (front.more ++ t)) (drop_at front.more front.rest (length front.more) refl)
    ∙ ap (λ t. b ∷ t) (sym front.whole)

pub bytes_of_spans : (text : List ℕ) → flat_map span_bytes (spans text) ≡ text
bytes_of_spans text = spans_whole 0 text

-- what follows the first span, by the spans
pub text_is : (text rest : List ℕ) (span : Span) → spans text ≡ span ∷ spans rest → text ≡ span_bytes span ++ rest
text_is text rest span is =
    sym (bytes_of_spans text) ∙ ap (λ t. flat_map span_bytes t) is ∙ ap (λ t. span_bytes span ++ t) (bytes_of_spans rest)
