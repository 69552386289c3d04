use Rattle.std.proofs.Common.{◌≡◌, take}
use Rattle.kd_rows.specs.Table.{with_rows}
use Rattle.test_tables.proofs.fused.with_all.Given as goal

abbrev pub invariant-loop-row : goal.invariant-loop-row
invariant-loop-row l = l.next.rows ≡ with_rows (take l.row-index l.rows) l.table.rows
