use Rattle.std.proofs.Common.{◌≡◌, ◌^◌, ◌≤◌, List, [], length, map, IsTrue}
use Rattle.std.specs.List.{All}
use Rattle.sqlite.specs.Order.{Row as Columns}
use Rattle.sqlite.specs.State.{HasCleanDisk, IsUnchanged, Survives}
use Rattle.sqlite.specs.Held.{state}
use Rattle.sqlite.specs.Given.{HasGiven}
use Rattle.kd_rows.specs.Row.{IsInRange}
use Rattle.kd_rows.specs.Table.{Rise}
use Rattle.kd_store.specs.Fault.{first_five}
use Rattle.kd_store.specs.Lease.{columns_of, rows_text}
use Rattle.kd_store.proofs.Strange.{end_of}
use Rattle.kd_store.proofs.statement.gather.Given as goal

abbrev pub invariant-rows : goal.invariant-rows
invariant-rows g l =
    let first = l.fn.shown.conn in
    let old = state g.S.Store first.now in
    let now = state g.S.Store l.shown.conn.now in
    (l.shown.conn.ghost_name ≡ first.ghost_name) × Survives old now (λ _. ⊥)
    × (HasCleanDisk now → HasGiven g.S.Store rows_text [] first.now [] → IsTrue old.is_open
    → (given : List Columns) × (map columns_of l.rows.items ≡ map first_five given) × HasGiven g.S.Store rows_text [] l.shown.conn.now given × IsUnchanged old now)
    × Rise l.rows.items × All IsInRange l.rows.items
    × (l.least ≡ end_of 0 l.rows.items) × (l.least ≤ 2 ^ 32) × (length l.rows.items ≡ l.counter)
