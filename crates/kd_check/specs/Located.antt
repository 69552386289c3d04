-- The report about what stands at a path of a configuration: with its line, its column and a mark,
-- if the text has it.
use Rattle.std.specs.Prelude.{◌≡◌, ℕ, ◌+◌, ◌-◌, not, ◌==◌, List, [], ◌++◌, codes, count_by, reverse, take, Option, Some, None}
use Rattle.std.specs.List.{prefix_len}
use Rattle.kd_check.specs.Lookup.{value_under}
use Rattle.kd_check.specs.Mark.{line_numbered, place_lines}
use Rattle.kd_check.specs.Place.{path_place}
use Rattle.kd_check.specs.Report.{IsValueLine, path_title, place_title, said_line, said_of}
use Rattle.kd_fields.specs.Text.{value_spelled}

-- the number of the line that a place is in, counted from 1
abbrev pub row_at_place : List ℕ → ℕ → ℕ
row_at_place text place = count_by (λ b. b == 10) (take place text) + 1

-- the column of a place, in bytes, counted from 1
abbrev pub column_at_place : List ℕ → ℕ → ℕ
column_at_place text place = prefix_len (λ b. not (b == 10)) (reverse (take place text)) + 1

-- how a path is called: by its place, if it has one, and as it is
abbrev pub title_at : List ℕ → List ℕ → Option ℕ → List ℕ
title_at text path None = path_title path
title_at text path (Some place) =
    place_title (row_at_place text place) (column_at_place text place)
    ++ codes ": " ++ path_title path

-- the line that a place is in, of the text as it is shown, and the mark under the place
abbrev pub lines_at : List ℕ → List ℕ → Option ℕ → List ℕ
lines_at text shown None = []
lines_at text shown (Some place) =
    place_lines (line_numbered shown (row_at_place text place))
    (Some (column_at_place text place - 1))

-- the lines about a path of a text that is shown with these lines
abbrev pub located_lines : List ℕ → List ℕ → List ℕ → List ℕ → List ℕ → List ℕ
located_lines name text shown path words =
    let place = path_place text path in
    said_line name (title_at text path place) words ++ lines_at text shown place

-- the lines about the value at a path of a text; the value is shown if there is one
abbrev pub IsLocatedValue : List ℕ → List ℕ → List ℕ → List ℕ → List ℕ → List ℕ → Type 0
IsLocatedValue name text shown path words report =
    let place = path_place text path in
    (line : List ℕ)
    × IsValueLine (said_of name (title_at text path place) words)
    (value_under (value_spelled text) path) line
    × (report ≡ line ++ lines_at text shown place)
