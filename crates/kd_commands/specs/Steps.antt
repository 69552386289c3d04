-- The results of the steps of reading an order, and of those of reading a hardware address.
use Rattle.std.specs.Prelude.{◌≡◌, ◌≢◌, ◌==◌, ℕ, [], ◌∷◌, Option, Some, None, Result, Ok, Err}
use Rattle.std.specs.Prelude.{if◌then◌else◌, option_map}
use Rattle.clap.specs.Words.{Text, first_value, found_of}
use Rattle.clap.specs.declared.parser.matches.ArgMatches.{ArgMatches}
use Rattle.clap.specs.declared.error.kind.ErrorKind.{ErrorKind}
use Rattle.clap.specs.declared.error.kind.ErrorKind.TheVariants.{DisplayHelp, DisplayVersion, OutOfMemory}
use Rattle.kd_commands.specs.Order.{Asked, GivesUnlessFull, Paths, paths_in}
use Rattle.kd_commands.specs.Values.{byte_spelled}
use Rattle.kd_commands.specs.declared.fault.LineFault.{LineFault}
use Rattle.kd_commands.specs.declared.fault.LineFault.TheVariants.{CommandLine, Memory}
use Rattle.kd_commands.specs.declared.orders.Files.{Files}
use Rattle.kd_commands.specs.declared.orders.Order.{Order}
use Rattle.kd_commands.specs.declared.orders.Order.TheVariants.{Help, Version}

-- a mistake, or memory ran out
abbrev pub IsMistakeUnlessFull : Result Order LineFault → Type 0
IsMistakeUnlessFull (Ok order) = ⊥
IsMistakeUnlessFull (Err fault) = Unit {0}

-- the texts of the matches, by the names of the parameters
abbrev pub matched_texts : ArgMatches → Text → Option Text
matched_texts matches name = first_value (found_of matches) name

-- if something is asked it is given, and otherwise it is a mistake
abbrev pub GivesIfThere : Option Asked → Result Order LineFault → Type 0
GivesIfThere (Some asked) r = GivesUnlessFull asked r
GivesIfThere None r = IsMistakeUnlessFull r

-- the files have these paths, or memory ran out; if there are no paths, it is a mistake
abbrev pub GivesPaths : Option Paths → Result Files LineFault → Type 0
GivesPaths paths (Ok files) = paths ≡ Some (paths_in files)
GivesPaths paths (Err CommandLine) = paths ≡ None
GivesPaths paths (Err Memory) = Unit {0}

-- an error of this kind is help, the version, a mistake, or out of memory
abbrev pub AnswersKind : ErrorKind → Result Order LineFault → Type 0
AnswersKind kind (Ok (Help text)) = kind ≡ DisplayHelp
AnswersKind kind (Ok Version) = kind ≡ DisplayVersion
AnswersKind kind (Ok order) = ⊥
AnswersKind kind (Err CommandLine) =
    (kind ≢ DisplayHelp) × (kind ≢ DisplayVersion) × (kind ≢ OutOfMemory)
AnswersKind kind (Err Memory) = Unit {0}

-- the byte of the two digits that a text begins with, and the rest of the text
unfoldable pub byte_at_front : Text → Option (ℕ × Text)
byte_at_front [] = None
byte_at_front (high ∷ []) = None
byte_at_front (high ∷ low ∷ behind) = option_map (λ byte. (byte, behind)) (byte_spelled high low)

-- the same after `:`
unfoldable pub byte_behind_colon : Text → Option (ℕ × Text)
byte_behind_colon [] = None
byte_behind_colon (colon ∷ text) = if colon == 58 then byte_at_front text else None
