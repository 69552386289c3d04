-- What is said, in words, of a file in the form of ISC Kea's DHCPv4 server: the keys that are
-- refused, the values that are wrong, its first fault, and the keys that are skipped.
use Rattle.std.specs.Prelude.{◌≡◌, ℕ, ◌&&◌, ◌==◌, Bool, MatchBool, MatchOption, true, false, not, nat_eq, nat_lt, slice_get, if◌then◌else◌, List, [], ◌∷◌, ◌++◌, bytes_eq, codes, filter, length, map, take, Option, Some, None}
use Rattle.std.specs.List.{flat_map, list_any, starts_with}
use Rattle.kd_check.specs.Located.{IsLocatedValue, located_lines}
use Rattle.kd_check.specs.Report.{IsReport, words_at_path}
use Rattle.kd_json.specs.declared.fault.ConfigFault.{ConfigFault}
use Rattle.kd_notes.specs.Notes.{KeyNote, kea_notes}
use Rattle.kd_plain.specs.Plain.{first_include, plain, spans}
use Rattle.kd_notes.specs.declared.notes.NoteKind.{NoteKind}
use Rattle.kd_notes.specs.declared.notes.NoteKind.TheVariants.{Skipped, Unknown, Wrong}
use Rattle.kd_names.specs.Values.{sign_text}
use Rattle.kd_reports.specs.Words.{AreStartWords, HoldsOfText}
use Rattle.kd_trouble.specs.declared.fault.StartFault.{StartFault}
use Rattle.kd_trouble.specs.declared.fault.StartFault.TheVariants as starts

-- ---- the keys that are skipped

-- the line about a key that is skipped
unfoldable pub skipped_line : List ℕ → List ℕ → List ℕ
skipped_line name path =
    name ++ codes ": " ++ path ++ codes ": skipped, no client notices it\n"

-- the line about a key that is not read, unless it is refused
abbrev pub line_of_kind : List ℕ → List ℕ → NoteKind → List ℕ
line_of_kind name path Skipped = skipped_line name path
line_of_kind name path Unknown = []
line_of_kind name path Wrong = []

-- the lines about the keys that are skipped, in order
abbrev pub skipped_lines : List ℕ → List KeyNote → List ℕ
skipped_lines name notes = flat_map (λ note. line_of_kind name note.0 note.1) notes

-- the lines about the keys of a text that are skipped; none if the text has no notes
abbrev pub remark_lines : List ℕ → Option (List KeyNote) → List ℕ
remark_lines name None = []
remark_lines name (Some notes) = skipped_lines name notes

-- remarks on the file at a path, for a server with this address if no option has another: a line
-- about each key of its text that is skipped
abbrev pub AreKeaRemarks : List ℕ → Option ℕ → List ℕ → Type 0
AreKeaRemarks path server words =
    HoldsOfText (λ text. words ≡ remark_lines (flat_map sign_text path) (kea_notes text server))

-- ---- the keys that are refused

-- a key is refused
abbrev pub is_unknown : NoteKind → Bool
is_unknown Unknown = true
is_unknown Wrong = false
is_unknown Skipped = false

-- the paths of the keys that are refused, in order
abbrev pub refused_paths : List KeyNote → List (List ℕ)
refused_paths notes = map (λ note. note.0) (filter (λ note. is_unknown note.1) notes)

-- the lines about a key that is refused: where it is in the JSON of a text, shown as it is written
abbrev pub refused_place : List ℕ → List ℕ → List ℕ → List ℕ → List ℕ
refused_place name written json path =
    located_lines name json written path (codes "not served, or not with this value")

-- the line that more keys are refused than are shown
unfoldable pub more_text : List ℕ → List ℕ
more_text name = name ++ codes ": more keys are not served\n"

-- the line, if so many keys are refused that there are more
abbrev pub more_line : List ℕ → ℕ → List ℕ
more_line name count = if nat_lt 64 count then more_text name else []

-- the lines about the keys that are refused: at most 64 are shown
unfoldable pub refused_lines : List ℕ → List ℕ → List ℕ → List (List ℕ) → List ℕ
refused_lines name written json paths =
    flat_map (λ path. refused_place name written json path) (take 64 paths)
    ++ more_line name (length paths)

-- the key at a path is refused
abbrev pub is_refused_at : List ℕ → List KeyNote → Bool
is_refused_at path notes = list_any (λ note. is_unknown note.1 && bytes_eq note.0 path) notes

-- ---- the values that are wrong

-- a path may end here, or go on with this sign
abbrev pub is_path_end : Option ℕ → Bool
is_path_end None = true
is_path_end (Some sign) = sign == 47

-- a path is that of a value, or leads to something in it
abbrev pub leads_into : List ℕ → List ℕ → Bool
leads_into path value =
    starts_with nat_eq path value && is_path_end (slice_get path (length value))

-- what is said of a fault is said of the value at a path, or of something in it
abbrev pub is_of_value : List ℕ → Option (List ℕ × List ℕ) → Bool
is_of_value value None = false
is_of_value value (Some place) = leads_into place.0 value

-- a value is wrong, and the first fault is not in it: of that more is said
abbrev pub is_wrong_beside : ConfigFault → KeyNote → Bool
is_wrong_beside fault (path, Wrong) = not (is_of_value path (words_at_path fault))
is_wrong_beside fault (path, Unknown) = false
is_wrong_beside fault (path, Skipped) = false

-- the paths of the wrong values without the first fault, in order
abbrev pub wrong_paths : ConfigFault → List KeyNote → List (List ℕ)
wrong_paths fault notes = map (λ note. note.0) (filter (is_wrong_beside fault) notes)

-- what is said of a value that is wrong
abbrev pub IsSaidOfValue : List ℕ → List ℕ → List ℕ → List ℕ → List ℕ → Type 0
IsSaidOfValue name written json path words =
    IsLocatedValue name json written path (codes "no value that is allowed here") words

-- what is said of the values at these paths, one after another
abbrev pub AreSaidOfValues : List ℕ → List ℕ → List ℕ → List (List ℕ) → List ℕ → Type 0
AreSaidOfValues name written json [] words = words ≡ []
AreSaidOfValues name written json (path ∷ paths) words =
    (first : List ℕ) × (others : List ℕ) × IsSaidOfValue name written json path first
    × AreSaidOfValues name written json paths others × (words ≡ first ++ others)

-- the line that more values are wrong than are shown
unfoldable pub more_values : List ℕ → List ℕ
more_values name = name ++ codes ": more values are wrong\n"

-- the line, if so many values are wrong that there are more
abbrev pub more_values_line : List ℕ → ℕ → List ℕ
more_values_line name count = if nat_lt 64 count then more_values name else []

-- what is said of wrong values at these paths: at most 64 are shown
pub record AreValueWords (name written json : List ℕ) (paths : List (List ℕ)) (words : List ℕ) : Type 0 where
  pub shown : List ℕ
  pub said : AreSaidOfValues name written json (take 64 paths) shown
  pub all : words ≡ shown ++ more_values_line name (length paths)

-- ---- the first fault

-- what is said of a fault at a path: nothing, if the key there is refused, since that has been said
abbrev pub IsSaidAt : List ℕ → List ℕ → List ℕ → List KeyNote → List ℕ × List ℕ → List ℕ → Type 0
IsSaidAt name written json notes place words =
    MatchBool (is_refused_at place.0 notes) (words ≡ [])
    (IsLocatedValue name json written place.0 place.1 words)

-- what is said of the first fault of a text whose JSON has these notes
abbrev pub IsSaidOfFault : List ℕ → List ℕ → List ℕ → List KeyNote → ConfigFault → List ℕ → Type 0
IsSaidOfFault name written json notes fault words =
    MatchOption (words_at_path fault) (IsReport name json fault words)
    (λ place. IsSaidAt name written json notes place words)

-- ---- together

-- what is said of a text whose JSON has these notes: the keys that are refused, the values that are
-- wrong, the first fault, and the keys that are skipped
pub record AreNotedWords (name written json : List ℕ) (notes : List KeyNote) (fault : ConfigFault)
    (words : List ℕ) : Type 0 where
  pub about_values : List ℕ
  pub wrong : AreValueWords name written json (wrong_paths fault notes) about_values
  pub about_fault : List ℕ
  pub said : IsSaidOfFault name written json notes fault about_fault
  pub all : words
      ≡ refused_lines name written json (refused_paths notes)
      ++ about_values
      ++ about_fault
      ++ skipped_lines name notes

-- the line about a directive for another file
unfoldable pub include_line : List ℕ → List ℕ → List ℕ
include_line name directive =
    name ++ codes ": another file is not read here: " ++ flat_map sign_text directive ++ codes "\n"

-- what is said of a text that is not JSON once its comments are blanked: it has a directive for
-- another file, or the fault is reported
abbrev pub AreUnnotedWords : List ℕ → List ℕ → Option (List ℕ) → ConfigFault → List ℕ → Type 0
AreUnnotedWords name json None fault words = IsReport name json fault words
AreUnnotedWords name json (Some directive) fault words = words ≡ include_line name directive

-- what is said of a text and its first fault, by its JSON and the notes of that; the fault alone,
-- if a block comment has no end
abbrev pub AreWordsBy : List ℕ → List ℕ → ConfigFault → Option (List ℕ) → Option (List KeyNote) → List ℕ → Type 0
AreWordsBy name text fault None notes words = IsReport name text fault words
AreWordsBy name text fault (Some json) None words =
    AreUnnotedWords name json (first_include (spans text)) fault words
AreWordsBy name text fault (Some json) (Some notes) words =
    AreNotedWords name text json notes fault words

-- what is said of a text and its first fault, for a server with this address if no option has
-- another
abbrev pub AreTextWords : List ℕ → List ℕ → Option ℕ → ConfigFault → List ℕ → Type 0
AreTextWords name text server fault words =
    AreWordsBy name text fault (plain text) (kea_notes text server) words

-- why the file at a path gives no configuration for such a server, in words
abbrev pub AreKeaStartWords : List ℕ → Option ℕ → StartFault → List ℕ → Type 0
AreKeaStartWords path server (starts.Input fault) words =
    AreStartWords (Some path) None (starts.Input fault) words
AreKeaStartWords path server (starts.Config fault) words =
    HoldsOfText (λ text. AreTextWords (flat_map sign_text path) text server fault words)
