-- A database holds a table of leases; a connection finds, is at or leaves one.
use Rattle.std.specs.Prelude.{◌≡◌, ◌⊎◌, false, List, [], ◌∷◌, map, IsTrue, IsPermutation}
use Rattle.sqlite.specs.Order.{Row as Columns, column}
use Rattle.sqlite.specs.Tree.{Trees}
use Rattle.sqlite_catalog.specs.Listing.{IsSound}
use Rattle.sqlite.specs.State.{State}
use Rattle.kd_rows.specs.declared.row.Row.{Row}
use Rattle.kd_rows.specs.Table.{Rise}
use Rattle.kd_store.specs.Lease.{lease_schema, no_schema, columns_of}

-- the columns of a stored row: its address, by which it is kept, and the columns after the place of
-- the key
abbrev pub columns_in : Columns → Columns
columns_in stored =
    column stored 0 ∷ column stored 2 ∷ column stored 3 ∷ column stored 4 ∷ column stored 5 ∷ []

-- the trees list the rows of a table: the rows are in ascending order, and their columns are stored
-- in some order
pub record Lists (trees : Trees) (table : List Row) : Type 0 where
  pub rise : Rise table
  pub same : IsPermutation (map columns_of table) (map columns_in (trees 0))

-- the trees are a database with our schema, and list the rows of this table
abbrev pub Holds : Trees → List Row → Type 0
Holds trees table = IsSound lease_schema trees × Lists trees table

-- a connection is at a table: it is open, in no transaction, and what it has committed holds that
-- table
pub record Stands (s : State) (table : List Row) : Type 0 where
  pub is_open : IsTrue s.is_open
  pub ready : s.in_transaction ≡ false
  pub schema : s.now.schema ≡ lease_schema
  pub holds : Holds s.now.trees table
  pub settled : s.committed ≡ s.now

-- a connection finds a table: its database holds that table, or has no table yet and the table is
-- empty
abbrev pub Finds : State → List Row → Type 0
Finds s table =
    ((s.now.schema ≡ no_schema) × (table ≡ [])) ⊎ (IsTrue s.is_open × Holds s.now.trees table)

-- whatever a crash leaves holds one of these two tables
abbrev pub Leaves : State → List Row → List Row → Type 0
Leaves s before after = (db : Trees) → s.may_leave db → Holds db before ⊎ Holds db after
