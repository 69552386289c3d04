-- Why a call to a store fails: which error of the database gives which fault.
use Rattle.std.specs.Prelude.{◌≡◌, ◌⊎◌, ℕ, ◌^◌, ◌<◌, List, [], ◌∷◌, map, Err}
use Rattle.std.specs.List.{All}
use Rattle.sqlite.specs.Order.{Row as Columns, column}
use Rattle.sqlite.specs.Held.{Held}
use Rattle.sqlite.specs.State.{State, IsUnchanged, Begins, Executes, FailsToQuery}
use Rattle.sqlite.specs.declared.error.Error.{Error}
use Rattle.sqlite.specs.declared.error.Error.TheVariants.{SqliteFailure}
use Rattle.sqlite.specs.declared.error.ErrorCode.TheVariants as code
use Rattle.sqlite_trees.specs.declared.store.Store.{Ghosts}
use Rattle.kd_keeps.specs.declared.fault.Cause.{Cause}
use Rattle.kd_keeps.specs.declared.fault.Cause.TheVariants as cause
use Rattle.kd_keeps.specs.declared.fault.StoreFault.{StoreFault}
use Rattle.kd_keeps.specs.declared.fault.StoreFault.TheVariants.{Schema, Sql}
use Rattle.kd_rows.specs.declared.row.Row.{Row}
use Rattle.kd_rows.specs.Row.{IsInRange}
use Rattle.kd_rows.specs.Table.{Rise}
use Rattle.kd_store.specs.Batch.{FailsTogether}
use Rattle.kd_store.specs.Lease.{columns_of, rows_text}

-- the cause of an error: memory, disk, size, damage and a closed database keep their names,
-- everything else is a refusal
abbrev pub cause_of : Error → Cause
cause_of (SqliteFailure code.OutOfMemory) = cause.OutOfMemory
cause_of (SqliteFailure code.SystemIoFailure) = cause.SystemIoFailure
cause_of (SqliteFailure code.DatabaseCorrupt) = cause.DatabaseCorrupt
cause_of (SqliteFailure code.DiskFull) = cause.DiskFull
cause_of (SqliteFailure code.Closed) = cause.Closed
cause_of (SqliteFailure code.TooBig) = cause.TooBig
cause_of _ = cause.Refused

-- the fault of a read that failed for this cause: a table that is damaged or refused is not ours
abbrev pub fault_of_cause : Cause → StoreFault
fault_of_cause cause.DatabaseCorrupt = Schema
fault_of_cause cause.Refused = Schema
fault_of_cause other = Sql other

-- the fault of a read that is refused with this error
abbrev pub reading_fault : Error → StoreFault
reading_fault error = fault_of_cause (cause_of error)

-- a statement was refused, and the fault has the cause of its error
abbrev pub RefusesWith : List ℕ → Columns → State → State → StoreFault → Type 0
RefusesWith sql params old new fault =
    (error : Error) × (fault ≡ Sql (cause_of error)) × Executes sql params old new (Err error)

-- rows were not set together, and the fault has the cause of the error with which the transaction
-- did not begin, a statement in it was refused, or its commit failed
abbrev pub RefusesAllWith : {S : Type 0} → Ghosts S → List Row → Held S → Held S → StoreFault → Type 0
RefusesAllWith g rows old new fault =
    (error : Error) × (fault ≡ Sql (cause_of error)) × FailsTogether g rows old new error

-- the first five columns
abbrev pub first_five : Columns → Columns
first_five c = column c 0 ∷ column c 1 ∷ column c 2 ∷ column c 3 ∷ column c 4 ∷ []

-- a row that a table of leases may have: its address has 32 bits, and its times are in range
abbrev pub IsLease : Row → Type 0
IsLease row = (row.address < 2 ^ 32) × IsInRange row

-- rows that are shown and are not the beginning of any table of leases
abbrev pub IsStrange : List Columns → Type 0
IsStrange shown =
    (table : List Row) → Rise table → All IsLease table
    → ¬ (map columns_of table ≡ map first_five shown)

-- rows were not read: the query was refused with the error of this fault, or nothing has changed
-- and there was no memory for them, or the rows that the query shows first are not the beginning of
-- any table of leases
abbrev pub AreUnread : State → State → StoreFault → Type 0
AreUnread old new fault =
    ((error : Error) × (fault ≡ reading_fault error) × FailsToQuery rows_text [] old new error)
    ⊎ (IsUnchanged old new
    × ((fault ≡ Sql cause.OutOfMemory)
    ⊎ ((fault ≡ Schema) × (shown : List Columns) × Begins rows_text [] old shown
    × IsStrange shown)))
