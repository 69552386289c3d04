-- The leases in the bytes of a database and of its log.
use Rattle.std.specs.Prelude.{◌≡◌, ℕ, List, codes}
use Rattle.sqlite_wal.specs.Recovery.{Image}
use Rattle.sqlite_trees.specs.Tree.{Trees}
use Rattle.sqlite.specs.Files.{HoldsDatabase}
use Rattle.kd_rows.specs.declared.row.Row.{Row}
use Rattle.kd_store.specs.Stands.{Holds}

-- the bytes of a log and of a database
abbrev pub bytes_image : List ℕ → List ℕ → Image
bytes_image log db = record { log = log; db = db }

-- rows are the leases in a database and its log: those of the table that they hold
pub record AreRowsIn (image : Image) (rows : List Row) : Type 0 where
  pub held : (db : Trees) (table : List Row) → HoldsDatabase image db → Holds db table
      → rows ≡ table

-- a database and its log hold no table of leases
abbrev pub LacksTable : Image → Type 0
LacksTable image = (db : Trees) (table : List Row) → HoldsDatabase image db → Holds db table → ⊥

-- the name of the table of leases
abbrev pub lease_name : List ℕ
lease_name = codes "lease"
