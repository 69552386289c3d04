use Rattle.std.proofs.Common.{◌≤◌, take, vec_capacity}
use Rattle.kd_loops.specs.Answering.{AreTold}
use Rattle.kd_loops.specs.Handling.{text_room}
use Rattle.kd_loops.proofs.answering.answer_all.Given as goal

abbrev pub invariant-loop-handled : goal.invariant-loop-handled
invariant-loop-handled g l = record {
  room : text_room ≤ vec_capacity l.room;
  larger : vec_capacity l.fn.room ≤ vec_capacity l.room;
  told : AreTold (take l.handled-index l.list) (g.L.Link.trace l.fn.link) (g.L.Link.trace l.link) (g.W.Sink.contents l.fn.sink) (g.W.Sink.contents l.sink);
}
