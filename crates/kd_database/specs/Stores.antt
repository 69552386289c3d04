-- Which table a store of leases is at that is opened in files, and why none is opened.
use Rattle.std.specs.Prelude.{◌≡◌, ◌⊎◌, false, List, [], IsTrue}
use Rattle.sqlite_disk.specs.declared.Disk.{Ghosts}
use Rattle.sqlite_wal.specs.Recovery.{Image}
use Rattle.sqlite_trees.specs.Tree.{Trees}
use Rattle.sqlite_store.specs.declared.store.FileStore.{FileStore}
use Rattle.sqlite_store.specs.FileStore as files
use Rattle.sqlite.specs.declared.error.Error.{Error}
use Rattle.sqlite.specs.declared.error.Error.TheVariants.{SqliteFailure}
use Rattle.sqlite.specs.declared.error.ErrorCode.TheVariants.{CannotOpen, DatabaseBusy, NotADatabase}
use Rattle.sqlite.specs.Held.{Held}
use Rattle.sqlite.specs.Opening.{is_open_error}
use Rattle.sqlite.specs.Start.{FindsIn}
use Rattle.sqlite.specs.State.{HasCleanDisk}
use Rattle.sqlite.specs.Files.{HoldsDatabase, IsOpened, over_files, file_state}
use Rattle.kd_keeps.specs.declared.fault.Cause.{Cause}
use Rattle.kd_keeps.specs.declared.fault.Cause.TheVariants as cause
use Rattle.kd_keeps.specs.declared.fault.StoreFault.{StoreFault}
use Rattle.kd_keeps.specs.declared.fault.StoreFault.TheVariants.{Sql}
use Rattle.kd_rows.specs.declared.row.Row.{Row}
use Rattle.kd_store.specs.Fault.{cause_of}
use Rattle.kd_store.specs.Kept.{Kept}
use Rattle.kd_store.specs.Opening.{GivesBack, OpensAt}
use Rattle.kd_store.specs.Stands.{Holds, Stands}

-- a file and a log without bytes
abbrev pub no_bytes : Image
no_bytes = record { log = []; db = [] }

-- a store is at the table of the database that files held
abbrev pub StandsAsHeld : {D : Type 0} {g : Ghosts D} → Image → Kept (FileStore D g) → Type 0
StandsAsHeld image store =
    HasCleanDisk (file_state store.conn) → (db : Trees) (table : List Row) → HoldsDatabase image db
    → Holds db table → Stands (file_state store.conn) table

-- if the file had no bytes yet, a store is at the empty table
abbrev pub StandsNew : {D : Type 0} {g : Ghosts D} → Image → Kept (FileStore D g) → Type 0
StandsNew image store =
    HasCleanDisk (file_state store.conn) → image.db ≡ [] → Stands (file_state store.conn) []

-- a connection was opened on what files held: if their disk returned what was written, it is open
-- and finds that, and the pages of a new file have no checksums
pub record IsOpenedOn {D : Type 0} {g : Ghosts D} (image : Image)
    (opened : Held (FileStore D g)) : Type 0 where
  pub is_opened : HasCleanDisk (file_state opened) → IsOpened opened
  pub found : HasCleanDisk (file_state opened) → FindsIn image (file_state opened)
  pub plain : HasCleanDisk (file_state opened) → image.db ≡ []
      → (files.view opened.store).has_sums ≡ false

-- a store over a connection that was opened on what files held
pub record IsStoreIn {D : Type 0} {g : Ghosts D} (image : Image)
    (store : Kept (FileStore D g)) : Type 0 where
  pub opened : Held (FileStore D g)
  pub on : IsOpenedOn image opened
  pub opens : OpensAt (file_state opened) (file_state store.conn)

-- the cause of an error with which files are not opened: a file that is not a database counts as
-- damaged, and one that cannot be opened, or is open elsewhere, cannot be read
abbrev pub opening_cause : Error → Cause
opening_cause (SqliteFailure NotADatabase) = cause.DatabaseCorrupt
opening_cause (SqliteFailure CannotOpen) = cause.SystemIoFailure
opening_cause (SqliteFailure DatabaseBusy) = cause.SystemIoFailure
opening_cause error = cause_of error

-- why there is no store: the files were not opened, or no store was opened over the connection to
-- them
abbrev pub IsNoStoreIn : {D : Type 0} → Ghosts D → Image → StoreFault → Type 0
IsNoStoreIn {D} g image fault =
    ((error : Error) × IsTrue (is_open_error error) × (fault ≡ Sql (opening_cause error)))
    ⊎ ((opened back : Held (FileStore D g)) × IsOpenedOn image opened
    × GivesBack over_files fault opened back)
