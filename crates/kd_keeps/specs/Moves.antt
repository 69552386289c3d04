-- What a call does to a store that keeps a table of leases.
use Rattle.std.specs.Prelude.{List, OnErr, OnOk, Result}
use Rattle.kd_keeps.specs.declared.fault.StoreFault.{StoreFault}
use Rattle.kd_rows.specs.declared.row.Row.{Row}

-- a call on a store that was at the table before, in terms of the tables that the store is at,
-- those that a crash leaves, and whether it is open: if the call succeeds, the store is at the
-- table after, and a crash leaves that one; if it fails, the store is where it was while it is
-- open; whatever the result, a crash leaves one of the two
pub record MovesTable {A : Type 0} (stands : List Row → Type 0) (leaves : List Row → List Row → Type 0)
    (is_open : Type 0) (before after : List Row) (result : Result A StoreFault) : Type 0 where
  pub done : OnOk result (stands after)
  pub settled : OnOk result (leaves after after)
  pub failed : OnErr result (is_open → stands before)
  pub crash : leaves before after
