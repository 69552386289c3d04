use Rattle.std.proofs.Common.{◌≡◌, ◌++◌, length}
use Rattle.std.specs.Prelude.{string_bytes}
use Rattle.kd_names.specs.Values.{shorts_behind}
use Rattle.kd_names.proofs.number.put_shorts_behind.Given as goal

abbrev pub invariant-loop-left : goal.invariant-loop-left
invariant-loop-left l = string_bytes l.out ++ shorts_behind l.left ≡ string_bytes l.fn.out ++ shorts_behind l.value

abbrev pub decreases-loop-left : goal.decreases-loop-left
decreases-loop-left l = length l.left
