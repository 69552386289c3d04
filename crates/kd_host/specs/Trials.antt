-- What this machine tells of its clock and of the log of a database, by what the system gave. Which
-- bytes lie at a path is in no clause.
use Rattle.std.specs.Prelude.{◌≡◌, ◌⊎◌, ℕ, ◌/◌, ◌==◌, ◌&&◌, not, IfErr, IfOk, List, MatchBool, Ok, Err, Option, Some, None, Result, length}
use Rattle.std.specs.Time.{FitsClock, system_time_nanos}
use Rattle.std.specs.declared.io.Error.{Error}
use Rattle.std.specs.declared.time.SystemTime.{SystemTime}
use Rattle.kd_database.specs.Tail.{AreLeftOut, IsNoCount}
use Rattle.kd_keeps.specs.declared.fault.StoreFault.{StoreFault}
use Rattle.kd_io.specs.declared.system.System.{Ghosts as Systems}

-- the whole seconds of a time that the system gave; 0 if it gave none
abbrev pub seconds_told : Result SystemTime Error → ℕ
seconds_told (Ok time) = system_time_nanos time / 1_000_000_000
seconds_told (Err error) = 0

-- the time of the clock of a system, which is in its range, in whole seconds; 0 if it gave none
abbrev pub IsTimeOfClock : {S : Type 0} → Systems S → S → ℕ → Type 0
IsTimeOfClock s system moment =
    (given : Result SystemTime Error) × s.tells system given
    × IfOk given (λ time. FitsClock (system_time_nanos time)) × (moment ≡ seconds_told given)

-- a count, if there is one; nothing if it cannot be determined
abbrev pub count_told : Result (Option ℕ) StoreFault → Option ℕ
count_told (Ok count) = count
count_told (Err fault) = None

-- how many bytes of a log a start leaves out because a frame was damaged, if any, and if that can be
-- determined
abbrev pub IsCountOf : List ℕ → Option ℕ → Type 0
IsCountOf log count =
    (given : Result (Option ℕ) StoreFault) × IfOk given (AreLeftOut log)
    × IfErr given (IsNoCount log) × (count ≡ count_told given)

-- the same of a log beside a database; all of the log, if the database has no bytes
abbrev pub IsUnused : List ℕ → List ℕ → Option ℕ → Type 0
IsUnused log db count =
    MatchBool (length db == 0 && not (length log == 0)) (count ≡ Some (length log))
    (IsCountOf log count)

-- the same of some log and database; nothing, if they cannot be read
abbrev pub IsUnusedOfSome : Option ℕ → Type 0
IsUnusedOfSome count =
    (count ≡ None) ⊎ ((log : List ℕ) × (db : List ℕ) × IsUnused log db count)
