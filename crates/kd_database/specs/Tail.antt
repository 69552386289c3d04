-- Frames of a log that a start leaves out: SQLite's write-ahead log (its file format, section 4).
use Rattle.std.specs.Prelude.{◌≡◌, ◌⊎◌, ℕ, ◌+◌, ◌-◌, ◌≤◌, ⊤, List, length, Option, None, Some}
use Rattle.sqlite_wal.specs.Format.{be32, part}
use Rattle.sqlite_wal.specs.PageSize.{IsPageSize}
use Rattle.sqlite_wal.specs.Recovery.{IsIgnored, IsLogFor, Replays, frame_at}
use Rattle.kd_keeps.specs.declared.fault.Cause.{Cause}
use Rattle.kd_keeps.specs.declared.fault.Cause.TheVariants.{DatabaseCorrupt, OutOfMemory, TooBig}
use Rattle.kd_keeps.specs.declared.fault.StoreFault.{StoreFault}
use Rattle.kd_keeps.specs.declared.fault.StoreFault.TheVariants.{Schema, Sql}

-- a frame of this same log begins at an offset: it has the salts of the log's header
pub record IsOwnFrame (log : List ℕ) (at : ℕ) : Type 0 where
  pub within : at + 24 ≤ length log
  pub salts : part log (at + 8) 8 ≡ part log 16 8

-- the offset after the last frame that a start takes of a log with pages of this size
abbrev pub IsEndOfFrames : List ℕ → ℕ → ℕ → Type 0
IsEndOfFrames log size at = (k : ℕ) × Replays size log k × (at ≡ frame_at size k)

-- a file is not a log, or its header names no valid page size
abbrev pub IsNoSizedLog : List ℕ → Type 0
IsNoSizedLog log = ¬ IsIgnored log → ¬ IsPageSize (be32 log 8)

-- how many bytes of a log a start leaves out from a frame of this same log on, if there is one at
-- the end of the frames that it takes
abbrev pub AreLeftOut : List ℕ → Option ℕ → Type 0
AreLeftOut log None =
    IsNoSizedLog log ⊎ ((size at : ℕ) × IsEndOfFrames log size at × (¬ IsOwnFrame log at))
AreLeftOut log (Some count) =
    (size at : ℕ) × IsLogFor size log × IsEndOfFrames log size at × IsOwnFrame log at
    × (count ≡ length log - at)

-- why the frames of a log with pages of this size are not counted: memory runs out, a start takes
-- no number of them, or there are too many for 32 bits
abbrev pub IsNotCounted : List ℕ → ℕ → Cause → Type 0
IsNotCounted log size OutOfMemory = ⊤
IsNotCounted log size DatabaseCorrupt = (k : ℕ) → ¬ Replays size log k
IsNotCounted log size TooBig = frame_at size 0xffff_fffe ≤ length log
IsNotCounted log size _ = ⊥

-- why there is no count: the file is a log with pages of some size, and its frames are not counted
abbrev pub IsNoCount : List ℕ → StoreFault → Type 0
IsNoCount log Schema = ⊥
IsNoCount log (Sql cause) =
    (size : ℕ) × IsPageSize size × IsLogFor size log × IsNotCounted log size cause
