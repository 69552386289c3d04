use Rattle.std.proofs.Common.{◌≡◌, ◌≤◌, length}
use Rattle.kd_names.specs.Pieces.{go_on_as_names, labels_of}
use Rattle.kd_names.proofs.pieces.has_names.Given as goal

abbrev pub invariant-loop-left : goal.invariant-loop-left
invariant-loop-left l = (l.size ≤ 255) × (go_on_as_names l.size (labels_of l.left) ≡ go_on_as_names 0 (labels_of l.value))

abbrev pub decreases-loop-left : goal.decreases-loop-left
decreases-loop-left l = length l.left
