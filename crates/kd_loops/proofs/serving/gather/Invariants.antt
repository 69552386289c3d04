use Rattle.std.proofs.Common.{length, ◌-◌, ◌<◌, ◌≤◌, take}
use Rattle.kd_loops.specs.Answering.{Gathers}
use Rattle.kd_loops.proofs.serving.gather.Given as goal

abbrev pub invariant-loop-count : goal.invariant-loop-count
invariant-loop-count g l = record {
  some : 0 < l.count;
  few : l.count ≤ l.left;
  within : l.count ≤ length l.buffers;
  gathers : Gathers (g.L.Link.trace l.fn.link) (g.L.Link.trace l.link) (take l.count l.buffers);
}

abbrev pub decreases-loop-count : goal.decreases-loop-count
decreases-loop-count g l = length l.initial.buffers - l.count
