-- The report of a configuration that is refused: what is wrong with its text, in words, in one or
-- three lines; the first begins with the name that the operator gave.
use Rattle.std.specs.Prelude.{◌≡◌, ℕ, ◌-◌, Bool, true, false, if◌then◌else◌, nat_le, ◌≤◌, List, ◌++◌, length, take, bytes_eq, codes, decimal, string_bytes, Option, Some, None}
use Rattle.std.specs.Fmt.Cut.{floor_char_boundary}
use Rattle.std.specs.Str.{is_utf8}
use Rattle.kd_check.specs.Lookup.{class_text, class_title, file_title, value_under}
use Rattle.kd_check.specs.Mark.{line_numbered, place_lines}
use Rattle.kd_check.specs.Words.{test_place, test_words, tokens_words}
use Rattle.kd_classes.specs.declared.fault.ClassFault.{ClassFault}
use Rattle.kd_classes.specs.declared.fault.ClassFault.TheVariants as classes
use Rattle.kd_fields.specs.Text.{value_spelled}
use Rattle.kd_json.specs.declared.fault.ConfigFault.{ConfigFault}
use Rattle.kd_json.specs.declared.fault.ConfigFault.TheVariants as faults
use Rattle.kd_json.specs.declared.fault.FileTestFault.{FileTestFault}
use Rattle.kd_json.specs.declared.fault.TestFault.{TestFault}
use Rattle.serde_json.specs.Data.{Data, depth}
use Rattle.serde_json.specs.Read.{read, max_depth}
use Rattle.serde_json.specs.Written.{compact_text, has_float}

-- a statement about a subject, after the operator's name for the configuration; without a line feed
abbrev pub said_of : List ℕ → List ℕ → List ℕ → List ℕ
said_of name subject words = name ++ codes ": " ++ subject ++ codes ": " ++ words

-- a statement about a subject, as a line
abbrev pub said_line : List ℕ → List ℕ → List ℕ → List ℕ
said_line name subject words = said_of name subject words ++ codes "\n"

-- a statement about the configuration as a whole, as a line
abbrev pub bare_line : List ℕ → List ℕ → List ℕ
bare_line name words = name ++ codes ": " ++ words ++ codes "\n"

-- how a place in a text is called
abbrev pub place_title : ℕ → ℕ → List ℕ
place_title row column = codes "line " ++ decimal row ++ codes ", column " ++ decimal column

-- why a text cannot be read as JSON: it is not UTF-8, it ends too early, or for another reason
abbrev pub unread_words : Bool → Bool → List ℕ
unread_words false cut = codes "not UTF-8"
unread_words true false = codes "not JSON"
unread_words true true = codes "not JSON: the text ends too early"

-- the lines about a text that is not JSON: a place, chosen by the JSON reader, the reason, and that
-- line of the text with a mark under the column
pub record IsUnreadReport (name text report : List ℕ) : Type 0 where
  pub row : ℕ
  pub column : ℕ
  pub cut : Bool
  pub written : report
      ≡ said_line name (place_title row column) (unread_words (is_utf8 text) cut)
      ++ place_lines (line_numbered text row) (Some (column - 1))

-- the report of a text that was refused as not JSON, by the value that it spells
abbrev pub IsJsonReport : List ℕ → List ℕ → Option Data → List ℕ → Type 0
IsJsonReport name text None report = IsUnreadReport name text report
IsJsonReport name text (Some value) report = report ≡ bare_line name (codes "not a configuration")

-- a text, cut at the end of a character and followed by ` ..` if it has more than 64 bytes, so that
-- at most 64 bytes of it are shown
abbrev pub cut_text : List ℕ → List ℕ
cut_text text =
    if nat_le (length text) 64 then text
    else take (floor_char_boundary text 64) text ++ codes " .."

-- the JSON of a value, without spaces; the digits of a number that is not an integer are left open
pub record IsJsonOf (value : Data) (json : List ℕ) : Type 0 where
  pub text : has_float value ≡ false → json ≡ compact_text value
  pub reads : depth value ≤ max_depth → read json ≡ Some value

-- a value is shown after a text
abbrev pub IsShownAfter : List ℕ → Data → List ℕ → Type 0
IsShownAfter said value shown =
    (json : List ℕ) × IsJsonOf value json × (shown ≡ said ++ codes ": " ++ cut_text json)

-- the line about what is wrong with a value; the value is shown if there is one
abbrev pub IsValueLine : List ℕ → Option Data → List ℕ → Type 0
IsValueLine said None line = line ≡ said ++ codes "\n"
IsValueLine said (Some value) line =
    (shown : List ℕ) × IsShownAfter said value shown × (line ≡ shown ++ codes "\n")

-- how a path is called
abbrev pub path_title : List ℕ → List ℕ
path_title path = if bytes_eq path (codes "-") then codes "the whole text" else path

-- the line about what is wrong with the value at a path of a whole value
abbrev pub IsPathLine : List ℕ → Option Data → List ℕ → List ℕ → List ℕ → Type 0
IsPathLine name whole path words line =
    IsValueLine (said_of name (path_title path) words) (value_under whole path) line

-- the lines about the test of the class with a number: why it has no program, and where
abbrev pub test_report : List ℕ → Option Data → ℕ → TestFault → List ℕ
test_report name whole number why =
    said_line name (class_title whole number) (test_words why)
    ++ place_lines (class_text whole number (codes "test")) (test_place why)

-- the line about the token file of the class with a number
abbrev pub tokens_line : List ℕ → Option Data → ℕ → FileTestFault → List ℕ
tokens_line name whole number why =
    said_line name (class_title whole number)
    (file_title (class_text whole number (codes "tokens")) ++ codes ": " ++ tokens_words why)

-- the line about a class that is refused
abbrev pub class_line : List ℕ → Option Data → ClassFault → List ℕ
class_line name whole (classes.Duplicate number) =
    said_line name (class_title whole number) (codes "an earlier class has this name")
class_line name whole (classes.UnknownMember number) =
    said_line name (class_title whole number)
    (codes "its test names a class that is not defined before it")
class_line name whole classes.TooMany =
    said_line name (codes "/Dhcp4/client-classes") (codes "there are more than 256 classes")

-- the path of a fault that has one, and what is wrong there
abbrev pub words_at_path : ConfigFault → Option (List ℕ × List ℕ)
words_at_path (faults.Missing path) = Some (string_bytes path, codes "this key is missing")
words_at_path (faults.Unknown path) = Some (string_bytes path, codes "this key is not known")
words_at_path (faults.BadValue path) =
    Some (string_bytes path, codes "this value is not allowed")
words_at_path (faults.PoolOutside path) =
    Some (string_bytes path, codes "not inside the subnet")
words_at_path (faults.Overlap path) =
    Some (string_bytes path, codes "an earlier pool has one of these addresses")
words_at_path (faults.DuplicateReservation path) =
    Some (string_bytes path, codes "an earlier reservation has the same")
words_at_path fault = None

-- the report of a text and of the fault found in it
abbrev pub IsReport : List ℕ → List ℕ → ConfigFault → List ℕ → Type 0
IsReport name text faults.Json report = IsJsonReport name text (value_spelled text) report
IsReport name text (faults.Missing path) report =
    report ≡ said_line name (string_bytes path) (codes "this key is missing")
IsReport name text (faults.Unknown path) report =
    report ≡ said_line name (string_bytes path) (codes "this key is not known")
IsReport name text (faults.BadValue path) report =
    IsPathLine name (value_spelled text) (string_bytes path)
    (codes "this value is not allowed") report
IsReport name text (faults.PoolOutside path) report =
    IsPathLine name (value_spelled text) (string_bytes path)
    (codes "not inside the subnet") report
IsReport name text (faults.Overlap path) report =
    IsPathLine name (value_spelled text) (string_bytes path)
    (codes "an earlier pool has one of these addresses") report
IsReport name text (faults.DuplicateReservation path) report =
    IsPathLine name (value_spelled text) (string_bytes path)
    (codes "an earlier reservation has the same") report
IsReport name text (faults.Expression number why) report =
    report ≡ test_report name (value_spelled text) number why
IsReport name text (faults.Tokens number why) report =
    report ≡ tokens_line name (value_spelled text) number why
IsReport name text (faults.Class why) report = report ≡ class_line name (value_spelled text) why
IsReport name text faults.Memory report = report ≡ bare_line name (codes "out of memory")
