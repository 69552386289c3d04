-- A store in memory that fails after a number of calls: what contracts see of it.
use Rattle.std.specs.Prelude.{List, Option}
use Rattle.kd_keeps.specs.declared.fault.StoreFault.{StoreFault}
use Rattle.kd_rows.specs.declared.row.Row.{Row}

-- its table, and the fault with which a call has failed
pub record Fused : Type 0 where
  pub table : List Row
  pub fault : Option StoreFault
