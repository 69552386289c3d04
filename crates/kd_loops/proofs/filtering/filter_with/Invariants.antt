use Rattle.std.proofs.Common.{◌≡◌, ◌≤◌, ℕ, List, Some, vec_capacity}
use Rattle.std.specs.Io.KnownBytes.{prepend_known}
use Rattle.kd_loops.specs.Lines.{line_limit}
use Rattle.kd_loops.proofs.Filtered.{Goes}
use Rattle.kd_loops.proofs.filtering.filter_with.Given as goal

abbrev pub invariant-loop-number : goal.invariant-loop-number
invariant-loop-number g l = record {
  room : line_limit ≤ vec_capacity l.line;
  goes : (input old : List ℕ) → g.R.Source.remaining l.fn.source ≡ Some input → g.W.Sink.contents l.fn.sink ≡ Some old
      → Goes (g.F.Filters.gives l.fn.filter) input old l.number (prepend_known l.ahead (g.R.Source.remaining l.source)) (g.W.Sink.contents l.sink);
}
