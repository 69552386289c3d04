use Rattle.std.proofs.Common.{◌≡◌, ◌^◌, ◌<◌, drop}
use Rattle.kd_expr.specs.Address.{decimal, decimal_behind}
use Rattle.kd_expr.proofs.number.number.Given as goal

abbrev pub invariant-loop-d : goal.invariant-loop-d
invariant-loop-d l = (l.n < 2 ^ 32) × (decimal_behind l.n (drop l.d-index l.digits) ≡ decimal l.digits)
