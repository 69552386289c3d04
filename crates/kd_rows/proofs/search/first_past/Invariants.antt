use Rattle.std.proofs.Common.{◌-◌, ◌<◌, ◌≤◌, true, false}
use Rattle.kd_rows.proofs.search.first_past.Given as goal

abbrev pub invariant-halves : goal.invariant-halves
invariant-halves g l = record {
  from : l.from ≤ l.low;
  order : l.low ≤ l.high;
  in_range : l.high ≤ l.to;
  before : l.from < l.low → goal.F-post g l.is_before (l.low - 1) true;
  past : l.high < l.to → goal.F-post g l.is_before l.high false;
}

abbrev pub decreases-halves : goal.decreases-halves
decreases-halves g l = l.high - l.low
