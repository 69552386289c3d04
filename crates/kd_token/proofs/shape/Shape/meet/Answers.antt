use Rattle.std.proofs.Common.{arith}
use Rattle.kd_token.proofs.Pairwise.{unequal}
use Rattle.kd_token.proofs.shape.Shape.meet.Goals as goal

pub returns-then-len-clause-met : goal.returns-then-len-clause-met
returns-then-len-clause-met c =
    unequal c.args.self.now c.args.other.now (λ e. omega (arith, e, c.len.ensures, c.len-2.ensures, c.if-len.true))
