use Rattle.std.proofs.Common.{arith}
use Rattle.kd_expr.proofs.Numbers.{too_large}
use Rattle.kd_expr.proofs.number.number.Goals as goal

pub returns-then-n : goal.returns-then-n
returns-then-n c =
    too_large c.args.digits.now c.loop-d.d-index c.loop-d.n c.loop-d-test.true c.loop-d.invariant.1
    (omega (arith, c.if-n.true, c.from.ensures, c.saturating_sub.ensures))
