-- What a store of leases leaves in files when it is closed or killed, and which table a store is at
-- that is opened on that.
use Rattle.std.specs.Prelude.{◌≡◌, ◌⊎◌, List, IsTrue}
use Rattle.sqlite_disk.specs.declared.Disk.{Ghosts}
use Rattle.sqlite_wal.specs.Recovery.{Image}
use Rattle.sqlite_trees.specs.Tree.{Trees}
use Rattle.sqlite_store.specs.declared.store.FileStore.{FileStore}
use Rattle.sqlite_store.specs.FileStore as files
use Rattle.sqlite.specs.Held.{Held}
use Rattle.sqlite.specs.State.{HasCleanDisk}
use Rattle.sqlite.specs.Files.{file_state}
use Rattle.kd_rows.specs.declared.row.Row.{Row}
use Rattle.kd_store.specs.Kept.{Kept}
use Rattle.kd_store.specs.Stands.{Leaves, Stands}
use Rattle.kd_database.specs.Stores.{IsStoreIn}

-- what lies below a connection: a crash leaves nothing of it that it does not also leave of the
-- connection
pub record LiesBelow {D : Type 0} {g : Ghosts D} (conn : Held (FileStore D g))
    (it : FileStore D g) : Type 0 where
  pub numbered : IsTrue (files.view it).is_numbered
  pub outcomes : (db : Trees) → files.recovers it db → files.recovers conn.store db

-- files are what a crash left of what lies below a connection
pub record IsCrashOf {D : Type 0} {g : Ghosts D} (conn : Held (FileStore D g))
    (image : Image) : Type 0 where
  pub it : FileStore D g
  pub below : LiesBelow conn it
  pub may : (files.state it).may_leave image

-- a store is at one table, which is one of any two that a crash could leave of a connection
abbrev pub StandsWhereLeft : {D E : Type 0} {g : Ghosts D} {h : Ghosts E}
    → Held (FileStore D g) → Kept (FileStore E h) → Type 0
StandsWhereLeft conn store =
    (found : List Row) × Stands (file_state store.conn) found
    × ((before after : List Row) → Leaves (file_state conn) before after → (found ≡ before)
    ⊎ (found ≡ after))

-- if files are what a crash left of a connection, a store in them is at such a table
abbrev pub Restarts : {D E : Type 0} → Ghosts D → Ghosts E → Type 0
Restarts {D} {E} g h =
    (conn : Held (FileStore D g)) (before after : List Row)
    → Leaves (file_state conn) before after
    → (image : Image) → IsCrashOf conn image → (store : Kept (FileStore E h))
    → IsStoreIn image store → HasCleanDisk (file_state store.conn) → StandsWhereLeft conn store

-- what lies below a connection whose process is killed is its own store
abbrev pub Kills : {D : Type 0} → Ghosts D → Type 0
Kills {D} g =
    (conn : Held (FileStore D g)) → IsTrue (files.view conn.store).is_numbered
    → LiesBelow conn conn.store
