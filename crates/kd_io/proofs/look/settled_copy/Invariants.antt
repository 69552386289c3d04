use Rattle.std.proofs.Common.{}
use Rattle.kd_io.specs.Looking.{IsUnsettled}
use Rattle.kd_io.proofs.look.settled_copy.Given as goal

abbrev pub invariant-loop : goal.invariant-loop
invariant-loop g l = record {
  unsettled : IsUnsettled l.counter (g.W.Watched.trace l.fn.files) (g.W.Watched.trace l.files);
}
