use Rattle.std.proofs.Common.{ℕ, ◌≡◌, ◌+◌, ◌<◌, ◌≤◌, is_some, vec_capacity, vec_len}
use Rattle.kd_loops.specs.Handling.{text_room}
use Rattle.kd_loops.specs.Serving.{HasServed, traffic}
use Rattle.kd_loops.proofs.serving.serve_from.Given as goal

abbrev pub invariant-loop-left : goal.invariant-loop-left
invariant-loop-left g l = record {
  room : text_room ≤ vec_capacity l.work.text;
  buffers : 0 < vec_len l.work.buffers;
  kept : is_some l.journal ≡ is_some l.fn.journal;
  limit : l.limit ≡ l.fn.watch.limit;
  done : ℕ;
  all : done + l.left ≡ l.count;
  served : HasServed l.fn.watch.limit g.H.ServesAll.latest g.H.ServesAll.batches done
      (record { server = l.fn.server; clocks = l.fn.watch.clocks }) (record { server = l.server; clocks = l.clocks })
      (traffic g.L.Link g.R.Sink g.W.Sink l.fn.link l.fn.journal l.fn.sink)
      (traffic g.L.Link g.R.Sink g.W.Sink l.link l.journal l.sink);
}

abbrev pub decreases-loop-left : goal.decreases-loop-left
decreases-loop-left g l = l.left
