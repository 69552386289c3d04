use Rattle.std.proofs.Common.{◌≤◌, take, vec_capacity}
use Rattle.std.specs.List.{flat_map}
use Rattle.std.specs.Io.KnownBytes.{Appends}
use Rattle.kd_loops.specs.Handling.{text_room}
use Rattle.kd_loops.specs.Recording.{record_line}
use Rattle.kd_loops.proofs.recording.write_events.Given as goal

abbrev pub invariant-loop-event : goal.invariant-loop-event
invariant-loop-event g l = record {
  room : text_room ≤ vec_capacity l.room;
  larger : vec_capacity l.fn.room ≤ vec_capacity l.room;
  written : Appends (g.R.Sink.contents l.fn.sink) (g.R.Sink.contents l.sink) (flat_map record_line (take l.event-index l.events));
}
