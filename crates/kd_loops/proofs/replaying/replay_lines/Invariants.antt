use Rattle.std.proofs.Common.{◌≡◌, ◌≤◌, ℕ, List, Some, vec_capacity}
use Rattle.std.specs.Io.KnownBytes.{prepend_known}
use Rattle.kd_loops.specs.Handling.{line_room}
use Rattle.kd_loops.specs.Lines.{line_limit}
use Rattle.kd_loops.specs.Replay.{Handles}
use Rattle.kd_loops.proofs.Going.{Going}
use Rattle.kd_loops.proofs.replaying.replay_lines.Given as goal

abbrev pub invariant-loop-number : goal.invariant-loop-number
invariant-loop-number g l = record {
  line : line_limit ≤ vec_capacity l.work.line;
  room : line_room ≤ vec_capacity l.work.room;
  handled : Handles g.H.Serves.gives l.number l.fn.server l.server;
  going : (input old : List ℕ) → g.R.Source.remaining l.fn.source ≡ Some input → g.W.Sink.contents l.fn.sink ≡ Some old
      → Going g.H.Serves.gives input l.fn.server old l.number l.server (prepend_known l.work.ahead (g.R.Source.remaining l.source)) (g.W.Sink.contents l.sink);
}
