-- A place in a text, shown to a reader: the text around it on one line, and a mark below it.
use Rattle.std.specs.Prelude.{ℕ, ◌-◌, ◌==◌, ◌&&◌, ◌||◌, nat_le, min, if◌then◌else◌, List, [], ◌++◌, length, map, take, drop, replicate, codes, slice_get, Option, Some, None}
use Rattle.std.specs.List.{slice_split}

-- a byte as it is shown: printable ASCII as it is, a tab or a carriage return as a space, and any
-- other byte as a dot
abbrev pub shown_byte : ℕ → ℕ
shown_byte b =
    if b == 9 || b == 13 then 32 else (if nat_le 32 b && nat_le b 126 then b else 46)

-- where the shown part of a text begins: at the first byte, but in a text of more than 200 bytes
-- 100 bytes before the place
abbrev pub shown_from : List ℕ → ℕ → ℕ
shown_from text place = if nat_le (length text) 200 then 0 else place - 100

-- the line of the text around a place: at most 200 bytes, after two spaces
unfoldable pub part_line : List ℕ → ℕ → List ℕ
part_line text place =
    codes "  " ++ map shown_byte (take 200 (drop (shown_from text place) text)) ++ codes "\n"

-- the line of the mark under the byte at a place
unfoldable pub mark_line : List ℕ → ℕ → List ℕ
mark_line text place =
    codes "  " ++ replicate (place - shown_from text place) 32 ++ codes "^\n"

-- the two lines that show a place in a text; a place after the end counts as the end
abbrev pub marked_lines : List ℕ → ℕ → List ℕ
marked_lines text place =
    let at = min place (length text) in part_line text at ++ mark_line text at

-- the two lines that show a place in a text, if there are both
abbrev pub place_lines : Option (List ℕ) → Option ℕ → List ℕ
place_lines (Some text) (Some place) = marked_lines text place
place_lines (Some text) None = []
place_lines None place = []

-- the line of a text with a number, counted from 1, without its line feed
abbrev pub line_numbered : List ℕ → ℕ → Option (List ℕ)
line_numbered text row = slice_get (slice_split (λ b. b == 10) text) (row - 1)
