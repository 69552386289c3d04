-- What is always true of a connection, and what reading the rows one at a time gives; used only in
-- private contracts.
use Rattle.std.specs.Prelude.{◌≡◌, ◌⊎◌, List, [], ◌∷◌, ◌++◌, map, Option, Some, None, Result, Ok, Err, IsTrue}
use Rattle.sqlite.specs.Order.{Row as Columns}
use Rattle.sqlite.specs.State.{State, IsUnchanged, Shown, FailsToQuery}
use Rattle.sqlite.specs.Held.{Held, state}
use Rattle.sqlite.specs.Given.{HasGiven}
use Rattle.sqlite.specs.declared.error.Error.{Error}
use Rattle.sqlite_trees.specs.declared.store.Store.{Ghosts}
use Rattle.kd_keeps.specs.declared.fault.Cause.TheVariants.{OutOfMemory}
use Rattle.kd_keeps.specs.declared.fault.StoreFault.{StoreFault}
use Rattle.kd_keeps.specs.declared.fault.StoreFault.TheVariants.{Schema, Sql}
use Rattle.kd_rows.specs.declared.row.Row.{Row}
use Rattle.kd_store.specs.Lease.{columns_of, rows_text}
use Rattle.kd_store.specs.Fault.{IsLease, AreUnread, first_five, reading_fault}

-- outside a transaction, what a connection shows is committed
abbrev pub IsSettled : State → Type 0
IsSettled s = IsTrue s.is_open → s.now ≡ s.committed

-- columns that are not those of any lease
abbrev pub IsNoRow : Columns → Type 0
IsNoRow shown = (row : Row) → IsLease row → ¬ (columns_of row ≡ first_five shown)

-- why columns are not read as a row: there is no memory for it, or they are not those of any lease
abbrev pub IsUnreadRow : Columns → StoreFault → Type 0
IsUnreadRow shown fault = (fault ≡ Sql OutOfMemory) ⊎ ((fault ≡ Schema) × IsNoRow shown)

-- after the rows that it gave, the query gives one more, which is read, or those were all its rows,
-- or it fails, or it gives a row that is not read
abbrev pub GoesOn : {S : Type 0} → Ghosts S → Held S → Held S → List Columns
    → Result (Option Row) StoreFault → Type 0
GoesOn g old new given (Ok (Some row)) =
    (shown : Columns) × (columns_of row ≡ first_five shown)
    × HasGiven g rows_text [] new (given ++ shown ∷ [])
    × IsUnchanged (state g old) (state g new)
GoesOn g old new given (Ok None) = Shown rows_text [] (state g old) (state g new) given
GoesOn g old new given (Err fault) =
    ((error : Error) × (fault ≡ reading_fault error)
    × FailsToQuery rows_text [] (state g old) (state g new) error)
    ⊎ ((shown : Columns) × IsUnreadRow shown fault
    × HasGiven g rows_text [] new (given ++ shown ∷ [])
    × IsUnchanged (state g old) (state g new))

-- the query shows the columns of these rows
abbrev pub AreShown : State → State → List Row → Type 0
AreShown old new rows =
    (shown : List Columns) × Shown rows_text [] old new shown
    × (map columns_of rows ≡ map first_five shown)

-- the rows are those that the query shows, or there is a reason why they were not read
abbrev pub ReadsTable : {V : Type 0} → (V → List Row) → State → State → Result V StoreFault → Type 0
ReadsTable items old new (Ok rows) = AreShown old new (items rows)
ReadsTable items old new (Err fault) = AreUnread old new fault
