use Rattle.std.proofs.Common.{length}
use Rattle.kd_wire.proofs.Areas.{Passed}
use Rattle.kd_wire.proofs.area.pieces.Given as goal

abbrev pub invariant-loop-rest : goal.invariant-loop-rest
invariant-loop-rest l = Passed l.area l.left l.at

abbrev pub decreases-loop-rest : goal.decreases-loop-rest
decreases-loop-rest l = length l.left
