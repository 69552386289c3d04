-- The rows of a store over files, whatever their disk; used only in private contracts.
use Rattle.std.specs.Prelude.{◌≡◌, Bool, List, is_some}
use Rattle.sqlite_disk.specs.declared.Disk.{Ghosts as Disks}
use Rattle.sqlite_schema.specs.Names.{table_named}
use Rattle.sqlite_wal.specs.Recovery.{Image}
use Rattle.sqlite_store.specs.declared.store.FileStore.{FileStore}
use Rattle.sqlite.specs.Files.{file_state}
use Rattle.sqlite.specs.Held.{Held}
use Rattle.kd_database.specs.Image.{lease_name}
use Rattle.kd_database.specs.Stores.{IsOpenedOn, IsStoreIn}
use Rattle.kd_keeps.specs.Reading.{AreRead}
use Rattle.kd_keeps.specs.declared.keeps.Keeps.{Ghosts}
use Rattle.kd_rows.specs.declared.row.Row.{Row}
use Rattle.kd_store.specs.Kept.{Kept}

-- rows were read from a store that was opened on what files held
pub record AreRowsOver {D : Type 0} {g : Disks D} (k : Ghosts (Kept (FileStore D g)))
    (image : Image) (rows : List Row) : Type 0 where
  pub store : Kept (FileStore D g)
  pub opened : IsStoreIn image store
  pub read : AreRead k store rows

-- whether the database that was opened on what files held has a table with the name of ours
pub record IsListed {D : Type 0} (g : Disks D) (image : Image) (has : Bool) : Type 0 where
  pub opened : Held (FileStore D g)
  pub on : IsOpenedOn image opened
  pub listed : is_some (table_named (file_state opened).now.schema lease_name) ≡ has
