-- Worked rows: the places of paths in two texts, counted from 0, and the lines about one.
use Rattle.std.proofs.Common.{◌≡◌, ℕ, ◌++◌, List, Some, None, refl}
use Rattle.std.specs.Prelude.{codes}
use Rattle.std.specs.Float.Numeral.{scan_numeral}
use Rattle.std.specs.Fmt.{digits}
use Rattle.kd_check.specs.Located.{located_lines}
use Rattle.kd_check.specs.Mark.{mark_line, part_line}
use Rattle.kd_check.specs.Place.{path_place, rests_within}
use Rattle.serde_json.specs.Find.{index_of}

-- 0123456789012345678901234567890123456
-- {"a": {"b": 1}, "b": [1, {"c": "}"}]}
abbrev nested : List ℕ
nested = codes "{\"a\": {\"b\": 1}, \"b\": [1, {\"c\": \"}\"}]}"

-- the key of the outer object, not the one of the inner object before it
outer_key : path_place nested (codes "/b") ≡ Some 16
unfolding rests_within
outer_key = refl

inner_key : path_place nested (codes "/a/b") ≡ Some 7
unfolding rests_within
inner_key = refl

second_item : path_place nested (codes "/b/1") ≡ Some 25
unfolding rests_within index_of scan_numeral
second_item = refl

key_in_item : path_place nested (codes "/b/1/c") ≡ Some 26
unfolding rests_within index_of scan_numeral
key_in_item = refl

-- there is no third item, and a string with a bracket ends nothing
no_item : path_place nested (codes "/b/2") ≡ None
unfolding rests_within index_of scan_numeral
no_item = refl

no_key : path_place nested (codes "/c") ≡ None
unfolding rests_within
no_key = refl

whole : path_place nested (codes "-") ≡ Some 0
whole = refl

-- 0123456789012345678901234
-- {"x": "\"y\": 1", "y": 2}
abbrev quoting : List ℕ
quoting = codes "{\"x\": \"\\\"y\\\": 1\", \"y\": 2}"

-- a key within a string is no key
not_in_string : path_place quoting (codes "/y") ≡ Some 18
unfolding rests_within
not_in_string = refl

-- {
--   "b": 1
-- }
abbrev lines : List ℕ
lines = codes "{\n  \"b\": 1\n}\n"

second_line : located_lines (codes "f") lines lines (codes "/b") (codes "no")
    ≡ codes "f: line 2, column 3: /b: no\n" ++ codes "    \"b\": 1\n" ++ codes "    ^\n"
unfolding rests_within part_line mark_line digits
second_line = refl
