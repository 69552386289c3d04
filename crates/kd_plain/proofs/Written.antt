-- What is written of a text takes in one more span.
use Rattle.std.proofs.Common.{◌≡◌, ℕ, ◌<◌, Bool, true, false, ◌==◌, List, [], ◌∷◌, ◌++◌, length, Option, Some, None, refl, sym, ap, ◌∙◌, arith, if◌then◌else◌, append_assoc}
use Rattle.std.specs.List.{list_any}
use Rattle.std.specs.Option.{ForSome}
use Rattle.std.proofs.lemmas.List.{append-nil, set-append_left}
use Rattle.kd_plain.specs.Plain.{Span, Single, a_json_space, a_closing_bracket, bracket_next, is_endless, json_bytes, plain, spans, spans_behind, with_zeros}
use Rattle.kd_plain.specs.Output.{with_comma, json_behind, TakesSpan}

-- without a closing bracket behind it the comma stays
stays : (bytes : List ℕ) (comma : Option ℕ) → with_comma bytes comma false ≡ bytes
stays bytes None = refl
stays bytes (Some at) = refl

-- what is written behind a comma does not change it
behind_comma : (bytes more : List ℕ) (comma : Option ℕ) (k : Bool) → ForSome comma (λ at. at < length bytes) → with_comma (bytes ++ more) comma k ≡ with_comma bytes comma k ++ more
behind_comma bytes more None k h = refl
behind_comma bytes more (Some at) false h = refl
behind_comma bytes more (Some at) true h = set-append_left bytes more at 32 (h at refl)

-- white space, of a comment or of one byte
takes_white : (more bytes : List ℕ) (comma : Option ℕ) (rest : List Span) → ForSome comma (λ at. at < length bytes) → json_behind (bytes ++ more) comma rest ≡ with_comma bytes comma (bracket_next rest) ++ (more ++ json_bytes rest)
takes_white more bytes comma rest h =
    ap (λ t. t ++ json_bytes rest) (behind_comma bytes more comma (bracket_next rest) h)
    ∙ append_assoc (with_comma bytes comma (bracket_next rest)) more (json_bytes rest)

space_no_comma : (b : ℕ) → a_json_space b ≡ true → (b == 44) ≡ false
space_no_comma b h = grind arith

pub space_no_closing : (b : ℕ) → a_json_space b ≡ true → a_closing_bracket b ≡ false
space_no_closing b h = grind arith

pub takes_space : (b : ℕ) (bytes : List ℕ) (comma : Option ℕ) (others : List ℕ) (comma' : Option ℕ) → a_json_space b ≡ true → ForSome comma (λ at. at < length bytes) → others ≡ bytes ++ b ∷ [] → comma' ≡ comma → TakesSpan (Single b) bytes comma others comma'
takes_space b bytes comma others comma' is h same stays = λ rest.
    ap (λ t. with_comma t comma' (bracket_next rest) ++ json_bytes rest) same
    ∙ ap (λ o. with_comma (bytes ++ b ∷ []) o (bracket_next rest) ++ json_bytes rest) stays
    ∙ rw (is, space_no_comma b is) (takes_white (b ∷ []) bytes comma rest h)

-- when no text is left, all of it is written
pub all_written : (text rest bytes : List ℕ) (comma : Option ℕ) (apart : Bool) → rest ≡ [] → json_behind bytes comma (with_zeros apart (spans rest)) ≡ json_bytes (with_zeros true (spans text)) → list_any is_endless (spans rest) ≡ list_any is_endless (spans text) → Some bytes ≡ plain text
unfolding spans_behind
all_written text rest bytes comma apart none same endless =
    let whole : bytes ≡ json_bytes (with_zeros true (spans text)) =
    sym (stays bytes comma) ∙ sym (append-nil (with_comma bytes comma false)) ∙ ap (λ t. json_behind bytes comma (with_zeros apart (spans t))) (sym none) ∙ same in
    let ends : list_any is_endless (spans text) ≡ false = sym endless ∙ ap (λ t. list_any is_endless (spans t)) none in
    ap Some whole ∙ ap (λ k. if k then None else Some (json_bytes (with_zeros true (spans text)))) (sym ends)
