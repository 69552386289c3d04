use Rattle.std.proofs.Common.{◌≡◌, ◌++◌, drop}
use Rattle.kd_config.proofs.copies.options_copied.Given as goal

abbrev pub invariant-loop-option : goal.invariant-loop-option
invariant-loop-option l = l.list.items ++ drop l.option-index l.options ≡ l.options
