-- The first span of a text, cut off.
use Rattle.std.proofs.Common.{◌≡◌, ◌≢◌, ℕ, suc, ◌+◌, ◌<◌, true, false, nat_eq, List, ◌∷◌, ◌++◌, length, take, drop, Option, Some, None, refl, sym, ap, ◌∙◌, subst, arith, eq-eqb}
use Rattle.std.specs.Prelude.{codes}
use Rattle.std.specs.List.{starts_with, position_or_len}
use Rattle.std.proofs.lemmas.Bool.{ne_eqb}
use Rattle.std.proofs.lemmas.List.{length-take, take-append-drop}
use Rattle.kd_plain.specs.Plain.{Span, Quoted, Comment, Single, span_bytes, a_line_feed, string_size, size_with, block_of_size, block_comment, begins_line_comment, first_span, spans}
use Rattle.kd_plain.proofs.Spans.{first_quoted, first_comment, first_block, first_single, comment_begins, spans_cut}

-- a span of n bytes
cut_at : (make : List ℕ → Span) (text : List ℕ) (b : ℕ) (bytes : List ℕ) (n : ℕ) (front behind : List ℕ) → text ≡ b ∷ bytes → front ≡ take n text → behind ≡ drop n text → span_bytes (make front) ≡ front → first_span b bytes ≡ make (take n (b ∷ bytes)) → 0 < n → spans text ≡ make front ∷ spans behind
cut_at make text b bytes n front behind whole first last own is some =
    let taken : take n (b ∷ bytes) ≡ front = ap (λ t. take n t) (sym whole) ∙ sym first in
    let left : drop n (b ∷ bytes) ≡ behind = ap (λ t. drop n t) (sym whole) ∙ sym last in
    ap (λ t. spans t) whole
    ∙ spans_cut b bytes (make front) behind (is ∙ ap make taken)
    (sym (ap (λ t. t ++ behind) (own ∙ sym taken) ∙ ap (λ t. take n (b ∷ bytes) ++ t) (sym left) ∙ take-append-drop n (b ∷ bytes)))
    (omega (arith, ap length own, ap length taken, length-take n (b ∷ bytes), some))

pub cut_quoted : (text : List ℕ) (b : ℕ) (bytes : List ℕ) (n : ℕ) (front behind : List ℕ) → text ≡ b ∷ bytes → front ≡ take (1 + n) text → behind ≡ drop (1 + n) text → b ≡ 34 → n ≡ string_size bytes → spans text ≡ Quoted front ∷ spans behind
cut_quoted text b bytes n front behind whole first last quote size =
    let one : suc n ≡ 1 + n = omega arith in
    cut_at Quoted text b bytes (1 + n) front behind whole first last refl
    (first_quoted b bytes (eq-eqb b 34 quote) ∙ ap (λ k. Quoted (b ∷ take k bytes)) (sym size) ∙ ap (λ k. Quoted (take k (b ∷ bytes))) one)
    (omega arith)

-- a comment has a byte at least
comment_some : (b : ℕ) (bytes : List ℕ) → begins_line_comment (b ∷ bytes) ≡ true → 0 < position_or_len a_line_feed (b ∷ bytes)
comment_some b bytes is = rw (comment_begins b bytes is) (omega arith)

pub cut_comment : (text : List ℕ) (b : ℕ) (bytes : List ℕ) (n : ℕ) (front behind : List ℕ) → text ≡ b ∷ bytes → front ≡ take n text → behind ≡ drop n text → b ≢ 34 → begins_line_comment text ≡ true → n ≡ position_or_len a_line_feed text → spans text ≡ Comment front ∷ spans behind
cut_comment text b bytes n front behind whole first last other is size =
    let begins : begins_line_comment (b ∷ bytes) ≡ true = ap (λ t. begins_line_comment t) (sym whole) ∙ is in
    let count : n ≡ position_or_len a_line_feed (b ∷ bytes) = size ∙ ap (λ t. position_or_len a_line_feed t) whole in
    cut_at Comment text b bytes n front behind whole first last refl
    (first_comment b bytes (ne_eqb b 34 other) begins ∙ ap (λ k. Comment (take k (b ∷ bytes))) (sym count))
    (omega (arith, count, comment_some b bytes begins))

pub cut_single : (text : List ℕ) (b : ℕ) (bytes : List ℕ) → text ≡ b ∷ bytes → b ≢ 34 → begins_line_comment text ≡ false → starts_with nat_eq text (codes "/*") ≡ false → spans text ≡ Single b ∷ spans bytes
cut_single text b bytes whole other line block =
    ap (λ t. spans t) whole
    ∙ spans_cut b bytes (Single b) bytes
    (first_single b bytes (ne_eqb b 34 other) (ap (λ t. begins_line_comment t) (sym whole) ∙ line) (ap (λ t. starts_with nat_eq t (codes "/*")) (sym whole) ∙ block))
    refl (omega arith)

block_some : (b : ℕ) (bytes : List ℕ) (o : Option ℕ) → 0 < length (span_bytes (block_of_size (b ∷ bytes) o))
block_some b bytes None = omega arith
block_some b bytes (Some n) = omega (arith, length-take (2 + n) (b ∷ bytes))

pub cut_off_block : (text : List ℕ) (b : ℕ) (bytes : List ℕ) (span : Span) (rest : List ℕ) → text ≡ b ∷ bytes → b ≢ 34 → begins_line_comment text ≡ false → starts_with nat_eq text (codes "/*") ≡ true → span ≡ block_comment text → text ≡ span_bytes span ++ rest → spans text ≡ span ∷ spans rest
cut_off_block text b bytes span rest whole other line block is parts =
    let block_is : span ≡ block_comment (b ∷ bytes) = is ∙ ap (λ t. block_comment t) whole in
    ap (λ t. spans t) whole
    ∙ spans_cut b bytes span rest
    (first_block b bytes (ne_eqb b 34 other) (ap (λ t. begins_line_comment t) (sym whole) ∙ line) (ap (λ t. starts_with nat_eq t (codes "/*")) (sym whole) ∙ block) ∙ sym block_is)
    (sym whole ∙ parts)
    (subst (λ s. 0 < length (span_bytes s)) (sym block_is) (block_some b bytes (size_with (codes "*/") (drop 2 (b ∷ bytes)))))
