-- The steps in which a server keeps a row. Proofs tie these to the history's one event; no public
-- contract cites them.
use Rattle.std.specs.Prelude.{◌≡◌, ◌≢◌, ◌≤◌, List}
use Rattle.kd_keeps.specs.declared.keeps.Keeps.{Ghosts}
use Rattle.kd_loops.specs.declared.fault.ServeFault.{ServeFault}
use Rattle.kd_loops.specs.declared.fault.ServeFault.TheVariants as faults
use Rattle.kd_rows.specs.Row.{IsInRange}
use Rattle.kd_rows.specs.Table.{latest_of}
use Rattle.kd_rows.specs.declared.row.Row.{Row}
use Rattle.kd_server.specs.Server.{Loses}

-- a row that may be set: no row has a later change, and its times are in range
pub record IsSettable (rows : List Row) (row : Row) : Type 0 where
  pub changed : latest_of rows ≤ row.changed
  pub in_range : IsInRange row

module _ {S : Type 0} (g : Ghosts S) where
  -- a row that changes the rows is not kept: memory ran out, and nothing changed; or the store
  -- failed, and the server's rows stay
  abbrev pub IsUnkept : List Row → List Row → S → S → List Row → ServeFault → Type 0
  IsUnkept before rows old new after faults.MomentTooLarge = ⊥
  IsUnkept before rows old new after faults.Memory =
      (rows ≡ before) × (new ≡ old) × (after ≢ before)
  IsUnkept before rows old new after (faults.Store fault) =
      (rows ≡ before) × Loses g fault old new before after
  IsUnkept before rows old new after faults.Failed = ⊥
