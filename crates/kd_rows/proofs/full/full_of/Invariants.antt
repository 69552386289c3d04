use Rattle.kd_rows.specs.Full.{AreFull}
use Rattle.kd_rows.proofs.full.full_of.Given as goal

abbrev pub invariant-loop-place : goal.invariant-loop-place
invariant-loop-place l = AreFull l.rows.rows l.full
