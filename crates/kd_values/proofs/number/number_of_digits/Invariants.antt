use Rattle.std.proofs.Common.{◌≡◌, ◌<◌, drop}
use Rattle.kd_values.specs.Numbers.{number_behind}
use Rattle.kd_values.proofs.number.number_of_digits.Given as goal

abbrev pub invariant-loop-digit : goal.invariant-loop-digit
invariant-loop-digit l = (l.number < l.limit) × (number_behind l.base l.number (drop l.digit-index l.digits) ≡ number_behind l.base 0 l.digits)
