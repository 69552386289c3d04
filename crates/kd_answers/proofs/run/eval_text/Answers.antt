use Rattle.std.proofs.Common.{subst}
use Rattle.std.specs.Result.{IfOk}
use Rattle.kd_expr.specs.View.{tree_of}
use Rattle.kd_answers.specs.Printed.{OfText, TestsTree}
use Rattle.kd_answers.proofs.Typed.{spelled, unread}
use Rattle.kd_answers.proofs.run.eval_text.Goals as goal

pub returns-in-Ok : goal.returns-in-Ok
returns-in-Ok c =
    let e = c.in-Ok.ensures in
    subst (λ text. IfOk c.eval_expr.result (OfText (TestsTree c.args.datagram.now) text)) c.as_bytes.ensures.value
    (spelled (TestsTree c.args.datagram.now) c.as_bytes.result.now (tree_of c.in-Ok.expr) c.eval_expr.result e.found e.only c.eval_expr.ensures)

pub returns-in-Err : goal.returns-in-Err
returns-in-Err c =
    let e = c.in-Err.ensures in
    subst (λ text. IfOk c.refused_text.result (OfText (TestsTree c.args.datagram.now) text)) c.as_bytes.ensures.value
    (unread (TestsTree c.args.datagram.now) c.as_bytes.result.now c.read.result c.in-Err.fault c.refused_text.result c.in-Err.is c.refused_text.ensures.ours e.only c.read.ensures.long c.refused_text.ensures.line)
