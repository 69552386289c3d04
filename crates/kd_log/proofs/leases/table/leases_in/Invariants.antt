use Rattle.std.proofs.Common.{◌+◌, ◌≤◌, length}
use Rattle.kd_loops.specs.Lines.{lines_of}
use Rattle.kd_log.proofs.Reading.{Read}
use Rattle.kd_log.proofs.leases.table.leases_in.Given as goal

abbrev pub invariant-loop-line : goal.invariant-loop-line
invariant-loop-line l = record {
  short : l.number + length l.rest ≤ length l.text;
  read : Read (lines_of l.text) (lines_of l.rest) l.table.entries l.number;
}

abbrev pub decreases-loop-line : goal.decreases-loop-line
decreases-loop-line l = length l.rest
