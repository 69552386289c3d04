-- What is said, in words, of files that give no configuration.
use Rattle.std.specs.Prelude.{◌≡◌, ◌⊎◌, ℕ, ◌≤◌, List, codes, length, Option, Some, None}
use Rattle.std.specs.List.{flat_map}
use Rattle.std.specs.declared.io.ErrorKind.{ErrorKind}
use Rattle.std.specs.declared.io.ErrorKind.TheVariants as kinds
use Rattle.kd_trouble.specs.Troubles.{file_trouble_words}
use Rattle.kd_check.specs.Report.{IsReport, bare_line}
use Rattle.kd_trouble.specs.declared.troubles.FileTrouble.{FileTrouble}
use Rattle.kd_trouble.specs.declared.troubles.FileTrouble.TheVariants as troubles
use Rattle.kd_io.specs.declared.files.InputFault.TheVariants as inputs
use Rattle.kd_json.specs.declared.fault.ConfigFault.{ConfigFault}
use Rattle.kd_names.specs.Values.{sign_text}
use Rattle.kd_trouble.specs.declared.fault.StartFault.{StartFault}
use Rattle.kd_trouble.specs.declared.fault.StartFault.TheVariants as starts

-- the trouble with a file that an error of the system means
abbrev pub file_trouble_of : ErrorKind → FileTrouble
file_trouble_of kinds.NotFound = troubles.Absent
file_trouble_of kinds.PermissionDenied = troubles.Denied
file_trouble_of kinds.IsADirectory = troubles.IsFolder
file_trouble_of kind = troubles.Other

-- a line about a subject, which is shown as a terminal may show it
abbrev pub line_about_subject : List ℕ → List ℕ → List ℕ
line_about_subject subject words = bare_line (flat_map sign_text subject) words

-- the trouble with a file, in words
abbrev pub IsFileReason : List ℕ → Type 0
IsFileReason why = (trouble : FileTrouble) × (why ≡ file_trouble_words trouble)

-- what an error of the system says of a file, in words
abbrev pub IsErrorReason : List ℕ → Type 0
IsErrorReason why = (kind : ErrorKind) × (why ≡ file_trouble_words (file_trouble_of kind))

-- why the folder of the token files is not read, in words
abbrev pub IsFolderReason : List ℕ → Type 0
IsFolderReason why =
    (why ≡ codes "it is no folder")
    ⊎ ((why ≡ codes "there is no such folder")
    ⊎ ((why ≡ codes "one of its token files can't be read") ⊎ IsErrorReason why))

-- the line about a folder that is not read; there is none if no folder is named
abbrev pub IsFolderLine : Option (List ℕ) → List ℕ → Type 0
IsFolderLine None words = ⊥
IsFolderLine (Some folder) words =
    (why : List ℕ) × IsFolderReason why × (words ≡ line_about_subject folder why)

-- the line about a file that is not read
abbrev pub IsFileLine : Option (List ℕ) → List ℕ → Type 0
IsFileLine None words =
    words ≡ line_about_subject (codes "the configuration") (codes "it can't be read")
IsFileLine (Some path) words =
    (why : List ℕ) × IsFileReason why × (words ≡ line_about_subject path why)

-- the line about the folder or the file that is not read
abbrev pub IsUnreadLine : Option (List ℕ) → Option (List ℕ) → List ℕ → Type 0
IsUnreadLine file folder words = IsFolderLine folder words ⊎ IsFileLine file words

-- this holds of some text of at most 16 MiB: that of a file that is read again and may have changed
-- since; the text is empty if the file cannot be read
abbrev pub HoldsOfText : (List ℕ → Type 0) → Type 0
HoldsOfText P = (text : List ℕ) × (length text ≤ 16777216) × P text

-- the report of a fault of the text of a file; if no file is named, memory ran out
abbrev pub IsConfigReport : Option (List ℕ) → ConfigFault → List ℕ → Type 0
IsConfigReport None fault words =
    words ≡ line_about_subject (codes "the built-in configuration") (codes "out of memory")
IsConfigReport (Some path) fault words =
    HoldsOfText (λ text. IsReport (flat_map sign_text path) text fault words)

-- why a file and a folder give no configuration, in words
abbrev pub AreStartWords : Option (List ℕ) → Option (List ℕ) → StartFault → List ℕ → Type 0
AreStartWords file folder (starts.Input inputs.Memory) words =
    words ≡ line_about_subject (codes "the configuration") (codes "out of memory")
AreStartWords file folder (starts.Input inputs.Read) words = IsUnreadLine file folder words
AreStartWords file folder (starts.Config fault) words = IsConfigReport file fault words
