use Rattle.std.proofs.Common.{◌≡◌, ◌≤◌, ℕ, List, Some, length, vec_capacity}
use Rattle.std.specs.Io.KnownBytes.{prepend_known}
use Rattle.kd_loops.specs.Lines.{line_limit}
use Rattle.kd_loops.proofs.Looking.{Begun}
use Rattle.kd_loops.proofs.lines.next_line.Given as goal

abbrev pub invariant-loop : goal.invariant-loop
invariant-loop g l = record {
  count : l.counter ≤ length l.line.items;
  short : length l.line.items ≤ line_limit;
  room : vec_capacity l.fn.line ≤ vec_capacity l.line;
  begun : (all : List ℕ) → prepend_known l.fn.ahead (g.S.Source.remaining l.fn.source) ≡ Some all
      → Begun all l.ahead (g.S.Source.remaining l.source) l.line.items;
}
