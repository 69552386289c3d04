-- A text without signs of comments, last commas and first points is its own plain text.
use Rattle.std.proofs.Common.{◌≡◌, ◌≢◌, ℕ, zero, suc, ◌-◌, Bool, true, false, ◌==◌, nat_eq, List, [], ◌∷◌, ◌++◌, length, Some, refl, sym, ap, ◌∙◌, subst, if◌then◌else◌, append_assoc, true≢false}
use Rattle.std.specs.Prelude.{◌&&◌, codes, flat_map}
use Rattle.std.specs.List.{AllByRecursion, starts_with}
use Rattle.std.proofs.lemmas.Bool.{eqb-true, ne_eqb}
use Rattle.kd_plain.specs.Plain.{Span, Quoted, Comment, Endless, Single, span_bytes, begins_line_comment, first_span, spans_behind, spans, a_json_space, a_closing_bracket, bracket_next, plain, point_next}
use Rattle.kd_plain.specs.PlainLaws.{IsPlainAlready, HasNoCommentSign, HasNoFirstPoint, HasNoLastComma}
use Rattle.kd_plain.proofs.Spans.{bytes_of_spans, first_quoted, first_single}
use Rattle.kd_plain.proofs.Blanked.{plain_stays}

-- a string or a single byte
abbrev pub IsSimple : Span → Type 0
IsSimple (Quoted bytes) = Unit {0}
IsSimple (Comment bytes) = ⊥
IsSimple (Endless bytes) = ⊥
IsSimple (Single b) = Unit {0}

no_line_comment : (b : ℕ) (bytes : List ℕ) → b ≢ 35 → b ≢ 47 → begins_line_comment (b ∷ bytes) ≡ false
no_line_comment b bytes h s = rw (ne_eqb 35 b (λ e. h (sym e)), ne_eqb 47 b (λ e. s (sym e))) refl

no_block_comment : (b : ℕ) (bytes : List ℕ) → b ≢ 47 → starts_with nat_eq (b ∷ bytes) (codes "/*") ≡ false
no_block_comment b bytes s = rw (ne_eqb 47 b (λ e. s (sym e))) refl

first_simple : (b : ℕ) (bytes : List ℕ) → b ≢ 35 → b ≢ 47 → IsSimple (first_span b bytes)
first_simple b bytes h s = at (b == 34) refl
  where
    at : (k : Bool) → (b == 34) ≡ k → IsSimple (first_span b bytes)
    at true is = subst IsSimple (sym (first_quoted b bytes is)) tt
    at false is = subst IsSimple (sym (first_single b bytes is (no_line_comment b bytes h s) (no_block_comment b bytes s))) tt

all_simple : (n : ℕ) (text : List ℕ) → HasNoCommentSign text → AllByRecursion IsSimple (spans_behind n text)
unfolding spans_behind
all_simple zero [] p = tt
all_simple (suc n) [] p = tt
all_simple (suc n) (b ∷ text) p = all_simple n text p.1
all_simple zero (b ∷ text) p =
    (first_simple b text p.0.0 p.0.1, all_simple (length (span_bytes (first_span b text)) - 1) text p.1)

-- a text that begins with white space and a closing bracket
record BeginsClosing (text : List ℕ) : Type 0 where
  space : List ℕ
  behind : List ℕ
  b : ℕ
  is : text ≡ space ++ b ∷ behind
  each : AllByRecursion (λ c. a_json_space c ≡ true) space
  closes : a_closing_bracket b ≡ true

closing_begins : (spans : List Span) → AllByRecursion IsSimple spans → bracket_next spans ≡ true → BeginsClosing (flat_map span_bytes spans)
closing_begins [] p next = absurd (true≢false (sym next))
closing_begins (Quoted bytes ∷ rest) p next = absurd (true≢false (sym next))
closing_begins (Comment bytes ∷ rest) p next = absurd p.0
closing_begins (Endless bytes ∷ rest) p next = absurd p.0
closing_begins (Single b ∷ rest) p next = at (a_json_space b) refl next (λ e. closing_begins rest p.1 e)
  where
    at : (k : Bool) → a_json_space b ≡ k → (if k then bracket_next rest else a_closing_bracket b) ≡ true → (bracket_next rest ≡ true → BeginsClosing (flat_map span_bytes rest)) → BeginsClosing (b ∷ flat_map span_bytes rest)
    at true white e behind =
        let more = behind e in
        record { space = b ∷ more.space; behind = more.behind; b = more.b; is = ap (λ t. b ∷ t) more.is; each = (white, more.each); closes = more.closes }
    at false other e behind = record { space = []; behind = flat_map span_bytes rest; b = b; is = refl; each = tt; closes = e }

not_true : (k : Bool) → (k ≡ true → ⊥) → k ≡ false
not_true true h = absurd (h refl)
not_true false h = refl

-- what a text with a point begins with
first_passed : (a b : Bool) → (a && b) ≡ true → a ≡ true
first_passed true b e = refl
first_passed false b e = absurd cc

point_first : (text : List ℕ) → starts_with nat_eq text (codes ".") ≡ true → (behind : List ℕ) × (text ≡ 46 ∷ behind)
point_first [] e = absurd cc
point_first (b ∷ text) e = (text, ap (λ c. c ∷ text) (sym (eqb-true 46 b (first_passed (46 == b) true e))))

already : (spans : List Span) (front : List ℕ) → AllByRecursion IsSimple spans → HasNoLastComma (front ++ flat_map span_bytes spans) → HasNoFirstPoint (front ++ flat_map span_bytes spans) → IsPlainAlready spans
already [] front p none bare = tt
already (Quoted bytes ∷ rest) front p none bare =
    let same = sym (append_assoc front bytes (flat_map span_bytes rest)) in
    already rest (front ++ bytes) p.1 (subst HasNoLastComma same none) (subst HasNoFirstPoint same bare)
already (Comment bytes ∷ rest) front p none bare = absurd p.0
already (Endless bytes ∷ rest) front p none bare = absurd p.0
already (Single b ∷ rest) front p none bare =
    let same = sym (append_assoc front (b ∷ []) (flat_map span_bytes rest)) in (
      λ is. not_true (bracket_next rest) (λ next.
          let more = closing_begins rest p.1 next in
          true≢false (sym more.closes ∙ none front more.space more.behind more.b (ap (λ c. front ++ c ∷ flat_map span_bytes rest) is ∙ ap (λ t. front ++ 44 ∷ t) more.is) more.each)),
      λ white. not_true (point_next rest) (λ next.
          let point = point_first (flat_map span_bytes rest) next in
          true≢false (sym white ∙ bare front point.0 b (ap (λ t. front ++ b ∷ t) point.1))),
      already rest (front ++ b ∷ []) p.1 (subst HasNoLastComma same none) (subst HasNoFirstPoint same bare),
    )

pub plain_stays_without : (text : List ℕ) → HasNoCommentSign text → HasNoLastComma text → HasNoFirstPoint text → plain text ≡ Some text
plain_stays_without text no_sign no_comma no_point =
    let same = sym (bytes_of_spans text) in
    plain_stays text (already (spans text) [] (all_simple 0 text no_sign) (subst HasNoLastComma same no_comma) (subst HasNoFirstPoint same no_point))
