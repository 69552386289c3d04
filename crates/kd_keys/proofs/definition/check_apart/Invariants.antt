use Rattle.std.proofs.Common.{◌≡◌, drop}
use Rattle.kd_keys.specs.Definitions.{are_apart}
use Rattle.kd_keys.proofs.definition.check_apart.Given as goal

abbrev pub invariant-loop-i : goal.invariant-loop-i
invariant-loop-i l = are_apart l.definitions ≡ are_apart (drop l.i l.definitions)
