use Rattle.std.proofs.Common.{◌≡◌, true, length}
use Rattle.kd_wire.specs.Walk.{pieces_from, is_whole_from}
use Rattle.kd_wire.proofs.walk.first_piece.Given as goal

abbrev pub invariant-loop-rest : goal.invariant-loop-rest
invariant-loop-rest l =
    (pieces_from 0 l.left ≡ pieces_from 0 l.area) × (is_whole_from 0 l.left ≡ true)

abbrev pub decreases-loop-rest : goal.decreases-loop-rest
decreases-loop-rest l = length l.left
