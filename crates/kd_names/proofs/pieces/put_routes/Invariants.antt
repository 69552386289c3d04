use Rattle.std.proofs.Common.{◌≡◌, ◌++◌, length, string_bytes}
use Rattle.kd_names.specs.Pieces.{routes_of}
use Rattle.kd_names.specs.Values.{routes_text}
use Rattle.kd_names.proofs.pieces.put_routes.Given as goal

abbrev pub invariant-loop-left : goal.invariant-loop-left
invariant-loop-left l = string_bytes l.out ++ routes_text (routes_of l.left) ≡ string_bytes l.fn.out ++ routes_text (routes_of l.value)

abbrev pub decreases-loop-left : goal.decreases-loop-left
decreases-loop-left l = length l.left
