use Rattle.kd_rows.proofs.Bounds.{BoundedTo}
use Rattle.kd_rows.proofs.blocks.bound_all.Given as goal

abbrev pub invariant-loop-place : goal.invariant-loop-place
invariant-loop-place l = BoundedTo l.rows-inside.all.now.rows l.rows l.blocks.rows l.place
