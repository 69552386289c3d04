use Rattle.std.proofs.Common.{◌≡◌, ◌++◌, length, string_bytes}
use Rattle.kd_names.specs.Pieces.{labels_of}
use Rattle.kd_names.specs.Values.{names_text}
use Rattle.kd_names.proofs.pieces.put_names.Given as goal

abbrev pub invariant-loop-left : goal.invariant-loop-left
invariant-loop-left l = string_bytes l.out ++ names_text (labels_of l.left) ≡ string_bytes l.fn.out ++ names_text (labels_of l.value)

abbrev pub decreases-loop-left : goal.decreases-loop-left
decreases-loop-left l = length l.left
