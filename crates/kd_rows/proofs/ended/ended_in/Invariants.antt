use Rattle.std.proofs.Common.{ℕ, ◌<◌, ◌≤◌, length, get_or}
use Rattle.kd_rows.specs.declared.row.Row.{Row}
use Rattle.kd_rows.proofs.Walks.{NoneEnded}
use Rattle.kd_rows.proofs.ended.ended_in.Given as goal

abbrev pub invariant-loop-place : goal.invariant-loop-place
invariant-loop-place l = record {
  above : (i : ℕ) (d : Row) → l.place ≤ i → i < length l.all.rows → l.first ≤ (get_or l.all.rows i d).address;
  none : NoneEnded l.rows-inside.withheld.now l.all.rows l.first l.moment l.place;
}
