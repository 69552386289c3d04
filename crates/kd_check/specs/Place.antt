-- Where a key or an item stands in a JSON text (RFC 8259), by its path (RFC 6901). What stands in a
-- text is given as the rest of the text from there. Bytes are ASCII codes.
use Rattle.std.specs.Prelude.{ℕ, zero, suc, ◌+◌, ◌-◌, Bool, ◌||◌, ◌&&◌, ◌==◌, nat_eq, if◌then◌else◌, List, [], ◌∷◌, ◌++◌, length, drop, map, codes, slice_get, find, Option, Some, None, option_map, option_and_then}
use Rattle.std.specs.List.{list_any, prefix_len, slice_split, starts_with}
use Rattle.serde_json.specs.Find.{index_of}

-- white space: a space, a tab, a line feed or a carriage return
abbrev pub is_white : ℕ → Bool
is_white b = b == 32 || b == 9 || b == 10 || b == 13

-- what follows the white space that a text begins with
abbrev pub after_white : List ℕ → List ℕ
after_white text = drop (prefix_len is_white text) text

-- what follows a string whose first quotation mark is before the text: it ends with the next
-- quotation mark, and a backslash takes the byte behind it along
abbrev pub after_string : List ℕ → List ℕ
after_string [] = []
after_string (b ∷ []) = []
after_string (b ∷ c ∷ bytes) =
    if b == 34 then c ∷ bytes
    else if b == 92 then after_string bytes
    else after_string (c ∷ bytes)

-- what follows the string or the other byte that a text begins with: the text has this first byte
-- and these others
abbrev pub after_first : ℕ → List ℕ → List ℕ
after_first b bytes = if b == 34 then after_string bytes else bytes

-- the first n of a text's rests
unfoldable pub rests_within : ℕ → List ℕ → List (List ℕ)
rests_within zero text = []
rests_within (suc n) [] = []
rests_within (suc n) (b ∷ bytes) = (b ∷ bytes) ∷ rests_within n (after_first b bytes)

-- the rests of a text, from each of its strings and from each byte that is outside of strings
abbrev pub rests : List ℕ → List (List ℕ)
rests text = rests_within (length text) text

-- an opening bracket
abbrev pub is_opening : ℕ → Bool
is_opening b = b == 91 || b == 123

-- a closing bracket
abbrev pub is_closing : ℕ → Bool
is_closing b = b == 93 || b == 125

-- how many brackets are open behind a byte, of those that were opened after a place
abbrev pub depth_behind : ℕ → ℕ → ℕ
depth_behind b depth =
    if is_opening b then depth + 1 else if is_closing b then depth - 1 else depth

-- what follows each comma of a container, up to the container's closing bracket; so many brackets
-- are open in it at the first of these rests
abbrev pub after_commas : ℕ → List (List ℕ) → List (List ℕ)
after_commas depth [] = []
after_commas depth ([] ∷ more) = []
after_commas depth ((b ∷ bytes) ∷ more) =
    if depth == 0 && is_closing b then []
    else if depth == 0 && b == 44 then bytes ∷ after_commas depth more
    else after_commas (depth_behind b depth) more

-- the members of a container, by what follows its opening bracket: what comes after white space
-- there and behind each comma
abbrev pub members : List ℕ → List (List ℕ)
members text = map after_white (text ∷ after_commas 0 (rests text))

-- a key in quotation marks
abbrev pub in_quotes : List ℕ → List ℕ
in_quotes key = codes "\"" ++ key ++ codes "\""

-- a member begins with this key
abbrev pub has_key : List ℕ → List ℕ → Bool
has_key key member = starts_with nat_eq member (in_quotes key)

-- a byte with a meaning of its own in a string or in a path: a quotation mark, a backslash or a
-- tilde
abbrev pub is_escaping : ℕ → Bool
is_escaping b = b == 34 || b == 92 || b == 126

-- the member with a key, the first if there are several; a key with escapes is not found
abbrev pub member_with_key : List ℕ → List ℕ → Option (List ℕ)
member_with_key key text =
    if list_any is_escaping key then None else find (has_key key) (members text)

-- a text in which an item begins
abbrev pub an_item : List ℕ → Option (List ℕ)
an_item [] = None
an_item (b ∷ bytes) = if b == 93 then None else Some (b ∷ bytes)

-- the item with a number, counted from 0
abbrev pub item_numbered : List ℕ → ℕ → Option (List ℕ)
item_numbered text number = option_and_then an_item (slice_get (members text) number)

-- the member of a value that a segment of a path names: the key of an object, or the item of an
-- array by its number in decimal
abbrev pub member_named : List ℕ → List ℕ → Option (List ℕ)
member_named segment [] = None
member_named segment (b ∷ bytes) =
    if b == 123 then member_with_key segment bytes
    else if b == 91 then option_and_then (item_numbered bytes) (index_of segment)
    else None

-- what follows the colon that a text begins with, or else the whole
abbrev pub after_colon : List ℕ → List ℕ → List ℕ
after_colon whole [] = whole
after_colon whole (b ∷ bytes) = if b == 58 then after_white bytes else whole

-- the value of a member: what follows its key and the colon, or the whole item
abbrev pub value_of_member : List ℕ → List ℕ
value_of_member [] = []
value_of_member (b ∷ bytes) =
    if b == 34 then after_colon (b ∷ bytes) (after_white (after_string bytes)) else b ∷ bytes

-- what the last of the segments names, from a member on
abbrev pub named_by : List (List ℕ) → List ℕ → Option (List ℕ)
named_by [] member = Some member
named_by (segment ∷ segments) member =
    option_and_then (named_by segments) (member_named segment (value_of_member member))

-- the sign between the segments of a path
abbrev pub is_slash : ℕ → Bool
is_slash b = b == 47

-- the segments of a path behind its first `/`
abbrev pub segments_of : List ℕ → List (List ℕ)
segments_of bytes = slice_split is_slash bytes

-- a text that is not empty
abbrev pub filled : List ℕ → Option (List ℕ)
filled [] = None
filled (b ∷ bytes) = Some (b ∷ bytes)

-- what a path names in a text: an empty path and the path `-` name the whole value
abbrev pub named_in : List ℕ → List ℕ → Option (List ℕ)
named_in text [] = filled (after_white text)
named_in text (b ∷ bytes) =
    if is_slash b then named_by (segments_of bytes) (after_white text)
    else if b == 45 && length bytes == 0 then filled (after_white text)
    else None

-- the place of what a path names in a text, counted from 0
abbrev pub path_place : List ℕ → List ℕ → Option ℕ
path_place text path = option_map (λ rest. length text - length rest) (named_in text path)
