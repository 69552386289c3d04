use Rattle.kd_rows.proofs.Newest.{Passed}
use Rattle.kd_rows.proofs.age.newest_from.Given as goal

abbrev pub invariant-loop-place : goal.invariant-loop-place
invariant-loop-place l = Passed l.rows.rows l.rows.ages l.start l.place l.first l.last
