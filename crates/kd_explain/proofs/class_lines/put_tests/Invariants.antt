use Rattle.std.proofs.Common.{◌≡◌, ◌++◌, drop}
use Rattle.std.specs.Prelude.{string_bytes}
use Rattle.kd_explain.specs.FoundLines.{class_lines}
use Rattle.kd_explain.proofs.class_lines.put_tests.Given as goal

abbrev pub invariant-loop-index : goal.invariant-loop-index
invariant-loop-index l =
    string_bytes l.out ++ class_lines (drop l.index l.classes) (drop l.index l.outcomes) ≡ string_bytes l.initial.out ++ class_lines l.classes l.outcomes
