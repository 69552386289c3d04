use Rattle.kd_rows.proofs.Places.{Accepted}
use Rattle.kd_rows.proofs.rows.Rows.accepts.Given as goal

abbrev pub invariant-loop-i : goal.invariant-loop-i
invariant-loop-i l = Accepted l.rows l.i
