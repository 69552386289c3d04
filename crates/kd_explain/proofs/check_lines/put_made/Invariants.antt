use Rattle.std.proofs.Common.{◌≡◌, ◌++◌, length}
use Rattle.std.specs.Prelude.{string_bytes}
use Rattle.kd_lease.specs.Rules.{asking}
use Rattle.kd_explain.specs.CheckLines.{made_lines}
use Rattle.kd_explain.proofs.check_lines.put_made.Given as goal

abbrev pub invariant-loop-left : goal.invariant-loop-left
invariant-loop-left l =
    string_bytes l.out ++ made_lines (asking l.matter.question.now) l.matter.rule l.matter.address l.left
    ≡ string_bytes l.fn.out ++ made_lines (asking l.matter.question.now) l.matter.rule l.matter.address l.lines

abbrev pub decreases-loop-left : goal.decreases-loop-left
decreases-loop-left l = length l.left
