use Rattle.std.proofs.Common.{◌≡◌, ◌≤◌, length, take, vec_len, vec_capacity}
use Rattle.kd_loops.specs.History.{History}
use Rattle.kd_loops.proofs.running.run_with.Given as goal

abbrev pub invariant-loop-event : goal.invariant-loop-event
invariant-loop-event g l = record {
  count : vec_len l.list ≡ l.event-index;
  room : length l.events ≤ vec_capacity l.list;
  history : History g.H.Serves.gives l.fn.server (take l.event-index l.events) l.list.items l.server;
}
