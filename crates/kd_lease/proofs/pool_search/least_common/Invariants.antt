use Rattle.std.proofs.Common.{◌+◌, ◌-◌, ◌≤◌}
use Rattle.kd_lease.specs.Rules.{asking}
use Rattle.kd_lease.specs.Seeking.{is_common_open}
use Rattle.kd_lease.proofs.Least.{NoneUpTo}
use Rattle.kd_lease.proofs.pool_search.least_common.Given as goal

abbrev pub invariant-loop-from : goal.invariant-loop-from
invariant-loop-from l = record {
  above : l.range.first ≤ l.from;
  none : NoneUpTo (is_common_open (asking l.question) l.subnet l.new) l.range.first l.from;
}

abbrev pub decreases-loop-from : goal.decreases-loop-from
decreases-loop-from l = l.range.last + 1 - l.from
