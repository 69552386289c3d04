-- What a connection finds that is opened on what a crash left.
use Rattle.std.specs.Prelude.{◌≡◌, ◌⊎◌, List, IsTrue}
use Rattle.sqlite_disk.specs.declared.Disk.{Ghosts}
use Rattle.sqlite_wal.specs.Recovery.{Image}
use Rattle.sqlite_trees.specs.Tree.{Trees}
use Rattle.sqlite_store.specs.declared.store.FileStore.{FileStore}
use Rattle.sqlite_store.specs.FileStore as files
use Rattle.sqlite.specs.Held.{Held}
use Rattle.sqlite.specs.Files.{file_state, IsOpened}
use Rattle.sqlite.specs.Start.{FindsIn}
use Rattle.kd_rows.specs.declared.row.Row.{Row}
use Rattle.kd_store.specs.Lease.{lease_schema}
use Rattle.kd_store.specs.Stands.{Holds, Finds, Stands}

-- if a crash leaves of a file one of two tables, a connection that is opened on what it left has
-- our schema, and the table that it finds is one of those two
abbrev pub Reopens : {D E : Type 0} → Ghosts D → Ghosts E → Type 0
Reopens {D} {E} g h =
    (it : FileStore D g) (before after : List Row) → IsTrue (files.view it).is_numbered
    → ((db : Trees) → files.recovers it db → Holds db before ⊎ Holds db after)
    → (image : Image) → (files.state it).may_leave image → (opened : Held (FileStore E h))
    → IsOpened opened → FindsIn image (file_state opened)
    → ((file_state opened).now.schema ≡ lease_schema)
    × ((found : List Row) → Finds (file_state opened) found → (found ≡ before)
    ⊎ (found ≡ after))

-- a connection is at only one table
abbrev pub StandsOnce : {E : Type 0} → Ghosts E → Type 0
StandsOnce {E} h =
    (conn : Held (FileStore E h)) (table other : List Row)
    → Stands (file_state conn) table → Stands (file_state conn) other → table ≡ other
