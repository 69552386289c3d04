use Rattle.std.proofs.Common.{◌≡◌}
use Rattle.kd_keys.specs.Options.{sent_to_all}
use Rattle.kd_keys.proofs.options.without_server.Given as goal

abbrev pub invariant-loop-option : goal.invariant-loop-option
invariant-loop-option l = l.left.items ≡ sent_to_all l.yielded
