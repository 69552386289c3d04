use Rattle.kd_expr.proofs.Count.{nodes_of_text}
use Rattle.kd_expr.proofs.expr.Typed.nodes.Goals as goal

pub count-requires : goal.count-requires
count-requires c = nodes_of_text _ c.self.invariant.0
