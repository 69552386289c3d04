use Rattle.std.proofs.Common.{◌≡◌, ◌++◌, length}
use Rattle.std.specs.Prelude.{string_bytes}
use Rattle.kd_program.specs.Advice.{hidden_notes}
use Rattle.kd_program.proofs.hiding.put_hidden.Given as goal

abbrev pub invariant-loop-left : goal.invariant-loop-left
invariant-loop-left l =
    string_bytes l.text ++ hidden_notes l.name l.left
    ≡ string_bytes l.fn.text ++ hidden_notes l.name l.subnets

abbrev pub decreases-loop-left : goal.decreases-loop-left
decreases-loop-left l = length l.left
