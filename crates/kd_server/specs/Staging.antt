-- The steps in which a server handles events together. Proofs tie these to what a batch gives; no
-- public contract cites them.
use Rattle.std.specs.Prelude.{◌≡◌, ◌≢◌, ◌⊎◌, List}
use Rattle.std.specs.List.{All}
use Rattle.kd_loops.specs.declared.fault.ServeFault.{ServeFault}
use Rattle.kd_loops.specs.declared.fault.ServeFault.TheVariants as faults
use Rattle.kd_rows.specs.Row.{IsInRange}
use Rattle.kd_rows.specs.Table.{with_rows}
use Rattle.kd_rows.specs.declared.row.Row.{Row}

-- the rows become others, and the list of rows to be committed grows with them: if the old list
-- turns a table into the old rows, the new list turns it into the new ones, and if the rows stay,
-- so does the list
pub record Stages (before : List Row) (old : List Row) (rows : List Row)
    (new : List Row) : Type 0 where
  pub sets : (table : List Row) → with_rows old table ≡ before → with_rows new table ≡ rows
  pub ranges : All IsInRange old → All IsInRange new
  pub moves : ((rows ≡ before) × (new ≡ old)) ⊎ (rows ≢ before)

-- a row that would change the rows is not set: memory ran out, and the rows stay
pub record IsUnset (before rows after : List Row) (fault : ServeFault) : Type 0 where
  pub memory : fault ≡ faults.Memory
  pub same : rows ≡ before
  pub changed : after ≢ before
