use Rattle.std.proofs.Common.{◌≡◌, ◌++◌}
use Rattle.kd_keys.specs.Options.{options_below}
use Rattle.kd_keys.proofs.inside.push_inside.Given as goal

abbrev pub invariant-loop-code : goal.invariant-loop-code
invariant-loop-code l = l.out.items ≡ l.fn.out.items ++ options_below l.entries l.space l.code
