use Rattle.std.proofs.Common.{◌≡◌, take}
use Rattle.std.specs.List.{filter}
use Rattle.kd_values.specs.Digits.{is_no_separator}
use Rattle.kd_values.proofs.digits.without_separators.Given as goal

abbrev pub invariant-loop-b : goal.invariant-loop-b
invariant-loop-b l = l.digits.items ≡ filter is_no_separator (take l.b-index l.text)
