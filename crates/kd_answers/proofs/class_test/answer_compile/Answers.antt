use Rattle.std.proofs.Common.{subst}
use Rattle.std.specs.Result.{IfOk}
use Rattle.kd_expr.specs.View.{tree_of}
use Rattle.kd_answers.specs.Printed.{OfText, CompilesTree}
use Rattle.kd_answers.proofs.Typed.{spelled, unread}
use Rattle.kd_answers.proofs.class_test.answer_compile.Goals as goal

pub returns-in-Ok : goal.returns-in-Ok
returns-in-Ok c =
    let e = c.in-Ok.ensures in
    subst (λ text. IfOk c.compile_expr.result (OfText CompilesTree text)) c.as_bytes.ensures.value
    (spelled CompilesTree c.as_bytes.result.now (tree_of c.in-Ok.expr) c.compile_expr.result e.found e.only c.compile_expr.ensures)

pub returns-in-Err : goal.returns-in-Err
returns-in-Err c =
    let e = c.in-Err.ensures in
    subst (λ text. IfOk c.refused_text.result (OfText CompilesTree text)) c.as_bytes.ensures.value
    (unread CompilesTree c.as_bytes.result.now c.read.result c.in-Err.fault c.refused_text.result c.in-Err.is c.refused_text.ensures.ours e.only c.read.ensures.long c.refused_text.ensures.line)
