-- The text of a configuration as Kea reads it (Kea Administrator Reference Manual, section JSON
-- Syntax), and the JSON text (RFC 8259) of the same length that it stands for. Kea also allows
-- comments, a comma before a closing bracket, and a number that begins with its point. Bytes are
-- ASCII codes.
use Rattle.std.specs.Prelude.{ℕ, zero, suc, ◌+◌, ◌-◌, Bool, true, false, not, ◌||◌, ◌&&◌, ◌==◌, nat_eq, nat_le, List, [], ◌∷◌, ◌++◌, length, take, drop, map, flat_map, codes, Option, Some, None, option_map, unwrap_or, if◌then◌else◌}
use Rattle.std.specs.List.{starts_with, before_first, prefix_len, list_any}

-- a part of a text: a string with its quotation marks, a comment with its signs, a block comment
-- that has no end, or any other byte
pub data Span : Type 0 where
  Quoted : List ℕ → Span
  Comment : List ℕ → Span
  Endless : List ℕ → Span
  Single : ℕ → Span

-- the bytes of a span
abbrev pub span_bytes : Span → List ℕ
span_bytes (Quoted bytes) = bytes
span_bytes (Comment bytes) = bytes
span_bytes (Endless bytes) = bytes
span_bytes (Single b) = b ∷ []

-- a line feed
abbrev pub a_line_feed : ℕ → Bool
a_line_feed b = b == 10

-- a quotation mark
abbrev pub a_quotation_mark : ℕ → Bool
a_quotation_mark b = b == 34

-- a backslash
abbrev pub a_backslash : ℕ → Bool
a_backslash b = b == 92

-- a comma
abbrev pub a_comma : ℕ → Bool
a_comma b = b == 44

-- how many bytes of a text belong to a string that has begun before it: all up to and with the next
-- quotation mark; a backslash takes the byte behind it along
abbrev pub string_size : List ℕ → ℕ
string_size [] = 0
string_size (b ∷ []) = 1
string_size (b ∷ c ∷ bytes) =
    if a_quotation_mark b then 1
    else if a_backslash b then 2 + string_size bytes
    else 1 + string_size (c ∷ bytes)

-- how many bytes of a text there are up to and with the first occurrence of a sign
abbrev pub size_with : List ℕ → List ℕ → Option ℕ
size_with sign [] = None
size_with sign (b ∷ bytes) =
    if starts_with nat_eq (b ∷ bytes) sign then Some (length sign)
    else option_map (λ n. n + 1) (size_with sign bytes)

-- a block comment with so many bytes behind its first sign; without a number it has no end
abbrev pub block_of_size : List ℕ → Option ℕ → Span
block_of_size text None = Endless text
block_of_size text (Some n) = Comment (take (2 + n) text)

-- the block comment that a text begins with
abbrev pub block_comment : List ℕ → Span
block_comment text = block_of_size text (size_with (codes "*/") (drop 2 text))

-- a comment to the end of the line begins here
abbrev pub begins_line_comment : List ℕ → Bool
begins_line_comment text =
    starts_with nat_eq text (codes "#") || starts_with nat_eq text (codes "//")

-- the span that a text begins with: the text has this first byte and these others
unfoldable pub first_span : ℕ → List ℕ → Span
first_span b bytes =
    if a_quotation_mark b then Quoted (b ∷ take (string_size bytes) bytes)
    else if begins_line_comment (b ∷ bytes) then Comment (before_first a_line_feed (b ∷ bytes))
    else if starts_with nat_eq (b ∷ bytes) (codes "/*") then block_comment (b ∷ bytes)
    else Single b

-- the spans of a text behind its first n bytes
unfoldable pub spans_behind : ℕ → List ℕ → List Span
spans_behind n [] = []
spans_behind zero (b ∷ bytes) =
    first_span b bytes ∷ spans_behind (length (span_bytes (first_span b bytes)) - 1) bytes
spans_behind (suc n) (b ∷ bytes) = spans_behind n bytes

-- the spans of a text: the one that it begins with, and those of what follows
abbrev pub spans : List ℕ → List Span
spans text = spans_behind 0 text

-- white space in JSON: a space, tab, line feed or carriage return
abbrev pub a_json_space : ℕ → Bool
a_json_space b = b == 32 || b == 9 || b == 10 || b == 13

-- a closing bracket of an array or an object
abbrev pub a_closing_bracket : ℕ → Bool
a_closing_bracket b = b == 93 || b == 125

-- a closing bracket comes next, after comments and white space if there are any
abbrev pub bracket_next : List Span → Bool
bracket_next [] = false
bracket_next (Quoted bytes ∷ rest) = false
bracket_next (Comment bytes ∷ rest) = bracket_next rest
bracket_next (Endless bytes ∷ rest) = false
bracket_next (Single b ∷ rest) =
    if a_json_space b then bracket_next rest else a_closing_bracket b

-- white space for the bytes of a comment: its line feeds, and a space for each other byte
abbrev pub blanks : List ℕ → List ℕ
blanks comment = map (λ b. if a_line_feed b then b else 32) comment

-- the bytes in JSON of spans: a comma is a space if a closing bracket comes next
abbrev pub json_bytes : List Span → List ℕ
json_bytes [] = []
json_bytes (Quoted bytes ∷ rest) = bytes ++ json_bytes rest
json_bytes (Comment bytes ∷ rest) = blanks bytes ++ json_bytes rest
json_bytes (Endless bytes ∷ rest) = blanks bytes ++ json_bytes rest
json_bytes (Single b ∷ rest) =
    (if a_comma b && bracket_next rest then 32 else b) ∷ json_bytes rest

-- a point comes next
abbrev pub point_next : List Span → Bool
point_next rest = starts_with nat_eq (flat_map span_bytes rest) (codes ".")

-- white space in a line
abbrev pub a_blank_in_line : ℕ → Bool
a_blank_in_line b = a_json_space b && not (a_line_feed b)

-- a number may begin behind a span and white space: the span is no digit and no minus sign
abbrev pub is_apart : Span → Bool
is_apart (Single b) = not (b == 45 || (nat_le 48 b && nat_le b 57))
is_apart span = true

-- a byte, or a zero for white space before a point, if a number may begin there
abbrev pub byte_or_zero : Bool → ℕ → List Span → ℕ
byte_or_zero apart b rest = if apart && a_blank_in_line b && point_next rest then 48 else b

-- a span, or a zero for white space before a point
abbrev pub span_or_zero : Bool → Span → List Span → Span
span_or_zero apart (Single b) rest = Single (byte_or_zero apart b rest)
span_or_zero apart span rest = span

-- spans with a zero before each point that begins a number behind white space; the argument says
-- whether a number may begin there
abbrev pub with_zeros : Bool → List Span → List Span
with_zeros apart [] = []
with_zeros apart (span ∷ rest) =
    span_or_zero apart span rest ∷ with_zeros (is_apart span) rest

-- whether a span is a block comment that has no end
abbrev pub is_endless : Span → Bool
is_endless (Quoted bytes) = false
is_endless (Comment bytes) = false
is_endless (Endless bytes) = true
is_endless (Single b) = false

-- the JSON text that a text stands for; none if a block comment has no end
abbrev pub plain : List ℕ → Option (List ℕ)
plain text =
    if list_any is_endless (spans text) then None
    else Some (json_bytes (with_zeros true (spans text)))

-- what follows the white space that a text begins with
abbrev pub behind_spaces : List ℕ → List ℕ
behind_spaces text = drop (prefix_len a_json_space text) text

-- a text begins with an include directive: `<?`, white space if any, `include`
abbrev pub begins_include : List ℕ → Bool
begins_include text =
    starts_with nat_eq text (codes "<?")
    && starts_with nat_eq (behind_spaces (drop 2 text)) (codes "include")

-- a directive in a line that begins with it: up to and with `?>`, or the whole line without it
abbrev pub directive_of : List ℕ → List ℕ
directive_of line = take (unwrap_or (size_with (codes "?>") line) (length line)) line

-- the first include directive outside strings and comments
abbrev pub first_include : List Span → Option (List ℕ)
first_include [] = None
first_include (Quoted bytes ∷ rest) = first_include rest
first_include (Comment bytes ∷ rest) = first_include rest
first_include (Endless bytes ∷ rest) = first_include rest
first_include (Single b ∷ rest) =
    let text = b ∷ flat_map span_bytes rest in
    if begins_include text then Some (directive_of (before_first a_line_feed text))
    else first_include rest
