-- What a connection is after a store was opened over it, or was not.
use Rattle.std.specs.Prelude.{◌≡◌, ◌⊎◌, ℕ, List, [], Ok, IsTrue}
use Rattle.sqlite_catalog.specs.Calls.{CreatesTable}
use Rattle.sqlite.specs.Does.{sequence_text}
use Rattle.sqlite.specs.Effect.{Database}
use Rattle.sqlite.specs.Held.{Held, state}
use Rattle.sqlite.specs.State.{State, HasCleanDisk, Executes}
use Rattle.sqlite.specs.Tree.{Trees}
use Rattle.sqlite_trees.specs.declared.store.Store.{Ghosts}
use Rattle.kd_keeps.specs.declared.fault.StoreFault.{StoreFault}
use Rattle.kd_rows.specs.declared.row.Row.{Row}
use Rattle.kd_store.specs.Fault.{RefusesWith, AreUnread}
use Rattle.kd_store.specs.Lease.{lease_schema, make_text, no_schema}
use Rattle.kd_store.specs.Stands.{Finds, Holds, Stands}

-- a database has our schema or an empty one
abbrev pub IsOurs : State → Type 0
IsOurs s = (s.now.schema ≡ no_schema) ⊎ (s.now.schema ≡ lease_schema)

-- a store was opened over a connection: it is at whatever table the connection found, and there was
-- one if the database had our schema or an empty one
pub record OpensAt (old new : State) : Type 0 where
  pub clean : HasCleanDisk new → HasCleanDisk old
  pub stands : HasCleanDisk new → (table : List Row) → Finds old table → Stands new table
  pub finds : HasCleanDisk new → IsOurs old → (table : List Row) × Finds old table

-- why no store was opened: the table was not made, or it was made and its rows were not read
abbrev pub IsNotOpened : {S : Type 0} → Ghosts S → StoreFault → Held S → Held S → Type 0
IsNotOpened {S} g fault old new =
    RefusesWith make_text [] (state g old) (state g new) fault
    ⊎ ((made : Held S) × (count : ℕ) × Executes make_text [] (state g old) (state g made) (Ok count)
    × AreUnread (state g made) (state g new) fault)

-- a table was made in a database, beside its other tables, whose rows stay
abbrev pub AddsTable : List ℕ → Database → Database → Type 0
AddsTable text old new = CreatesTable old.schema text old.trees new.schema new.trees

-- our table was made in a database, and after it the table in which SQL counts, if that was missing
abbrev pub AddsOurs : Database → Database → Type 0
AddsOurs old new =
    AddsTable make_text old new
    ⊎ ((between : Database) × AddsTable make_text old between × AddsTable sequence_text between new)

-- a connection is returned over which no store was opened: while it is open it finds the table that
-- it found before, and a crash leaves what it left before, or that table; whatever its database has
-- stays, except that our table may be new in it
pub record GivesBack {S : Type 0} (g : Ghosts S) (fault : StoreFault)
    (old new : Held S) : Type 0 where
  pub clean : HasCleanDisk (state g new) → HasCleanDisk (state g old)
  pub found : HasCleanDisk (state g new) → (table : List Row) → Finds (state g old) table
      → IsTrue (state g new).is_open → Finds (state g new) table
  pub crash : HasCleanDisk (state g new) → (table : List Row) → Finds (state g old) table
      → (db : Trees) → (state g new).may_leave db → (state g old).may_leave db ⊎ Holds db table
  pub stays : HasCleanDisk (state g new) → IsTrue (state g new).is_open
      → ((state g new).now ≡ (state g old).now) ⊎ AddsOurs (state g old).now (state g new).now
  pub why : HasCleanDisk (state g new) → IsNotOpened g fault old new
