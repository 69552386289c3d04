-- Rows that were read from a store.
use Rattle.std.specs.Prelude.{◌≡◌, List}
use Rattle.std.specs.List.{All}
use Rattle.kd_keeps.specs.declared.keeps.Keeps.{Ghosts}
use Rattle.kd_rows.specs.Row.{IsInRange}
use Rattle.kd_rows.specs.Table.{Rise}
use Rattle.kd_rows.specs.declared.row.Row.{Row}

module _ {S : Type 0} (g : Ghosts S) where
  -- rows that were read from a store: they are in ascending order and in range, and if the store's
  -- disk is clean they are the table that it is at, and a crash leaves that table
  pub record AreRead (store : S) (rows : List Row) : Type 0 where
    pub rise : Rise rows
    pub ranges : All IsInRange rows
    pub table : g.has_clean_disk store → (table : List Row) → g.stands store table
        → (rows ≡ table) × g.leaves store table table
