use Rattle.kd_rows.specs.Index.{block_number}
use Rattle.kd_rows.proofs.Bounds.{IsLeastTo}
use Rattle.kd_rows.proofs.blocks.least_beside.Given as goal

abbrev pub invariant-loop-place : goal.invariant-loop-place
invariant-loop-place l = IsLeastTo l.rows-inside.withheld.now l.rows-inside.all.now.rows (block_number l.address) l.place l.least
