-- A look at a database that another process writes, by what was read of its files and in which
-- order. A log that is restarted has another header, and the database is written only from a log
-- that holds everything written so far; so a copy of both is consistent at one time if the header
-- stayed the same (SQLite's file format, section 4).
use Rattle.std.specs.Prelude.{◌≡◌, ◌≢◌, ℕ, suc, zero, List, [], ◌∷◌, ◌++◌, Option, Some, None}
use Rattle.kd_io.specs.declared.look.Copied.{Copied}
use Rattle.kd_io.specs.declared.look.FilePart.{FilePart}
use Rattle.kd_io.specs.declared.look.FilePart.TheVariants.{Header, Database, Log}
use Rattle.kd_io.specs.declared.look.LookFault.{LookFault}
use Rattle.kd_io.specs.declared.look.LookFault.TheVariants as faults

-- how many times a copy is tried
abbrev pub most_tries : ℕ
most_tries = 100

-- if it is known what was read, it is still known, with these parts added
abbrev pub AreReadAs : List FilePart → Option (List FilePart) → Option (List FilePart) → Type 0
AreReadAs more old new = (parts : List FilePart) → old ≡ Some parts → new ≡ Some (parts ++ more)

-- the same with one part
abbrev pub IsReadAs : FilePart → Option (List FilePart) → Option (List FilePart) → Type 0
IsReadAs part = AreReadAs (part ∷ [])

-- one try: the header of the log, the database, the log, and the header again
abbrev pub one_try : List ℕ → List ℕ → List ℕ → List ℕ → List FilePart
one_try before db log after = Header before ∷ Database db ∷ Log log ∷ Header after ∷ []

-- the parts of n tries, at each of which the header changed
abbrev pub AreChanged : ℕ → List FilePart → Type 0
AreChanged zero parts = parts ≡ []
AreChanged (suc n) parts =
    (earlier : List FilePart) × (before db log after : List ℕ) × AreChanged n earlier × (before ≢ after)
    × (parts ≡ earlier ++ one_try before db log after)

-- a log and a database were read at a try at which the header stayed the same, after others at
-- which it changed
pub record IsSettledCopy (log db : List ℕ) (old new : Option (List FilePart)) : Type 0 where
  pub tries : ℕ
  pub parts : List FilePart
  pub changed : AreChanged tries parts
  pub header : List ℕ
  pub read : AreReadAs (parts ++ one_try header db log header) old new

-- the header changed at each of this many tries
pub record IsUnsettled (tries : ℕ) (old new : Option (List FilePart)) : Type 0 where
  pub parts : List FilePart
  pub changed : AreChanged tries parts
  pub read : AreReadAs parts old new

-- one try, by whether it gives a copy
abbrev pub IsTry : Option Copied → Option (List FilePart) → Option (List FilePart) → Type 0
IsTry (Some copy) old new =
    (header : List ℕ) × AreReadAs (one_try header copy.db copy.log header) old new
IsTry None old new =
    (before db log after : List ℕ) × (before ≢ after)
    × AreReadAs (one_try before db log after) old new

-- a fault of copying, and not of what the bytes hold: a file cannot be read, or the header changed
-- at each try
abbrev pub IsCopyFault : LookFault → Type 0
IsCopyFault (faults.Input fault) = Unit {0}
IsCopyFault faults.Unsettled = Unit {0}
IsCopyFault other = ⊥
