use Rattle.std.proofs.Common.{◌≡◌, ◌++◌, drop}
use Rattle.kd_config.proofs.copies.push_classes.Given as goal

abbrev pub invariant-loop-name : goal.invariant-loop-name
invariant-loop-name l = l.out.items ++ drop l.name-index l.classes ≡ l.fn.out.items ++ l.classes
