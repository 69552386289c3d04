-- The first directive of a text, by its first span.
use Rattle.std.proofs.Common.{◌≡◌, ℕ, Bool, true, false, ◌&&◌, List, [], ◌∷◌, ◌++◌, Some, None, refl, sym, ap, ◌∙◌, if◌then◌else◌, true≢false}
use Rattle.std.specs.Prelude.{flat_map}
use Rattle.std.specs.List.{before_first}
use Rattle.kd_plain.specs.Plain.{Span, Quoted, Comment, Endless, Single, span_bytes, a_line_feed, first_span, spans, spans_behind, begins_include, directive_of, first_include}
use Rattle.kd_plain.proofs.Spans.{bytes_of_spans, first_of_sign, text_is}

left_true : (s t : Bool) → (s && t) ≡ true → s ≡ true
left_true true t h = refl
left_true false t h = h

-- a text that begins with a directive begins with its first sign
sign_first : (b : ℕ) (bytes : List ℕ) → begins_include (b ∷ bytes) ≡ true → b ≡ 60
sign_first b bytes h = first_of_sign 60 (63 ∷ []) b bytes (left_true _ _ h)

-- and so with a single byte
single_first : (bytes : List ℕ) → spans (60 ∷ bytes) ≡ Single 60 ∷ spans bytes
unfolding spans_behind first_span
single_first bytes = refl

found : (b : ℕ) (bytes : List ℕ) (rest : List Span) → flat_map span_bytes rest ≡ bytes → begins_include (b ∷ bytes) ≡ true → first_include (Single b ∷ rest) ≡ Some (directive_of (before_first a_line_feed (b ∷ bytes)))
found b bytes rest is h =
    ap (λ t. if begins_include (b ∷ t) then Some (directive_of (before_first a_line_feed (b ∷ t))) else first_include rest) is
    ∙ ap (λ k. if k then Some (directive_of (before_first a_line_feed (b ∷ bytes))) else first_include rest) h

pub include_here : (text : List ℕ) → begins_include text ≡ true → first_include (spans text) ≡ Some (directive_of (before_first a_line_feed text))
include_here [] h = absurd (true≢false (sym h))
include_here (b ∷ bytes) h =
    let sign = sign_first b bytes h in
    ap (λ s. first_include s) (ap (λ c. spans (c ∷ bytes)) sign ∙ single_first bytes ∙ ap (λ c. Single c ∷ spans bytes) (sym sign))
    ∙ found b bytes (spans bytes) (bytes_of_spans bytes) h

later : (text rest : List ℕ) (span : Span) → text ≡ span_bytes span ++ rest → begins_include text ≡ false → first_include (span ∷ spans rest) ≡ first_include (spans rest)
later text rest (Quoted bytes) is h = refl
later text rest (Comment bytes) is h = refl
later text rest (Endless bytes) is h = refl
later text rest (Single b) is h =
    let no : begins_include (b ∷ flat_map span_bytes (spans rest)) ≡ false = ap (λ t. begins_include (b ∷ t)) (bytes_of_spans rest) ∙ ap (λ t. begins_include t) (sym is) ∙ h in
    ap (λ k. if k then Some (directive_of (before_first a_line_feed (b ∷ flat_map span_bytes (spans rest)))) else first_include (spans rest)) no

pub include_later : (text rest : List ℕ) (span : Span) → spans text ≡ span ∷ spans rest → begins_include text ≡ false → first_include (spans text) ≡ first_include (spans rest)
include_later text rest span is h = ap (λ s. first_include s) is ∙ later text rest span (text_is text rest span is) h

-- at the end of the text there is none
pub include_none : (text : List ℕ) → text ≡ [] → first_include (spans text) ≡ None
unfolding spans_behind
include_none text is = ap (λ t. first_include (spans t)) is
