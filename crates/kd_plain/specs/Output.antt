-- What the functions that write the plain text keep. Words for private contracts: no public one
-- cites them.
use Rattle.std.specs.Prelude.{◌≡◌, ℕ, Bool, List, ◌∷◌, ◌++◌, Option, Some, None, slice_set, if◌then◌else◌}
use Rattle.kd_plain.specs.Plain.{Span, Quoted, Comment, Endless, Single, bracket_next, json_bytes}
use Rattle.kd_plain.specs.declared.span.TextSpan.{TextSpan}
use Rattle.kd_plain.specs.declared.span.TextSpan.TheVariants as seen

-- the span that one in memory is seen as
abbrev pub span_of : TextSpan → Span
span_of (seen.Quoted bytes) = Quoted bytes.now
span_of (seen.Comment bytes) = Comment bytes.now
span_of (seen.Endless bytes) = Endless bytes.now
span_of (seen.Single b) = Single b

-- bytes whose comma at a place, if there is one, is a space if a closing bracket comes next
abbrev pub with_comma : List ℕ → Option ℕ → Bool → List ℕ
with_comma bytes None closes = bytes
with_comma bytes (Some at) closes = if closes then slice_set bytes at 32 else bytes

-- the text in JSON of bytes that are written, with a comma that waits, and of spans behind them
abbrev pub json_behind : List ℕ → Option ℕ → List Span → List ℕ
json_behind bytes comma rest = with_comma bytes comma (bracket_next rest) ++ json_bytes rest

-- from bytes with a comma that waits to others: these are followed by any spans as those are by the
-- same spans and a span before them
abbrev pub TakesSpan : Span → List ℕ → Option ℕ → List ℕ → Option ℕ → Type 0
TakesSpan span bytes comma others comma' =
    (rest : List Span) → json_behind others comma' rest ≡ json_behind bytes comma (span ∷ rest)
