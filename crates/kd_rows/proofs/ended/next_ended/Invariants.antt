use Rattle.kd_rows.proofs.Walks.{NoneOf}
use Rattle.kd_rows.proofs.ended.next_ended.Given as goal

abbrev pub invariant-loop-place : goal.invariant-loop-place
invariant-loop-place l = NoneOf l.rows l.blocks.rows l.first l.last l.moment l.place
