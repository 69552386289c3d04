use Rattle.std.proofs.Common.{◌<◌, arith, length}
use Rattle.std.proofs.lemmas.Result.{err_from_is_err_and}
use Rattle.kd_loops.proofs.Told.{cut_more, told_more}
use Rattle.kd_loops.proofs.answering.answer_all.Goals as goal

pub returns-in_err-answer-clause-answered : goal.returns-in_err-answer-clause-answered
returns-in_err-answer-clause-answered g c =
    let l = c.loop-handled in
    let less : l.handled-index < length c.args.list.now = omega arith in
    let p = err_from_is_err_and c.from_residual.result c.from_residual.ensures.1 in
    rw (p.1) (cut_more c.args.list.now l.handled-index c.handled-item.result less c.handled-item.is _ _ _ _ _ _ l.invariant.told c.in_err-answer.ensures.answered)

pub loop-handled-preserved : goal.loop-handled-preserved
loop-handled-preserved g c =
    let l = c.loop-handled in
    let less : l.handled-index < length c.args.list.now = omega arith in
    record {
      room = omega (arith, l.invariant.room, c.in_ok-answer.ensures.room);
      larger = omega (arith, l.invariant.larger, c.in_ok-answer.ensures.room);
      told = told_more c.args.list.now l.handled-index c.handled-item.result less c.handled-item.is _ _ _ _ _ _ l.invariant.told c.in_ok-answer.ensures.answered;
    }
