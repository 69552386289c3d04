use Rattle.std.proofs.Common.{◌≡◌, arith, inl, inr, refl, subst}
use Rattle.std.proofs.lemmas.Result.{err_from_is_err_and}
use Rattle.kd_loops.specs.Replay.{Handles, most_lines}
use Rattle.kd_loops.proofs.Going.{going_line, going_none, handles_more, handles_none, leaves_bad, leaves_end, leaves_event, leaves_memory, leaves_memory_at, leaves_more, leaves_more_long, leaves_read, leaves_too_long, none_ahead, whole_read}
use Rattle.kd_loops.proofs.Histories.{reaches_ended, reaches_none}
use Rattle.kd_loops.proofs.replaying.replay_lines.Goals as goal

pub returns-in_err-work-clause-reached : goal.returns-in_err-work-clause-reached
returns-in_err-work-clause-reached g c = reaches_none g.H.Serves.gives g.H.Serves.fails c.args.server.now

pub returns-in_err-replay_event-in-Ok-Line-clause-reached : goal.returns-in_err-replay_event-in-Ok-Line-clause-reached
returns-in_err-replay_event-in-Ok-Line-clause-reached g c =
    reaches_ended g.H.Serves.gives g.H.Serves.fails _ _ _ _ _ _ _ _ c.loop-number.invariant.handled c.in_err-replay_event-in-Ok-Line.ensures.ended

pub returns-in_err-work-clause-replayed : goal.returns-in_err-work-clause-replayed
returns-in_err-work-clause-replayed g c = λ input old known told.
    let p = err_from_is_err_and c.from_residual.result c.from_residual.ensures.1 in
    rw (p.1, p.2) (leaves_memory g.H.Serves.gives g.H.Serves.fails _ _ _ _ _ _ _ _
    (going_none g.H.Serves.gives input c.args.server.now old _ _ known told) (omega arith) (omega arith) (inl refl))

pub loop-number-init : goal.loop-number-init
loop-number-init g c = record {
  line = c.in_ok-work.ensures.line;
  room = c.in_ok-work.ensures.room;
  handled = handles_none g.H.Serves.gives c.args.server.now;
  going = λ input old known told. going_none g.H.Serves.gives input c.args.server.now old _ _ (none_ahead c.in_ok-work.ensures.ahead known) told;
}

pub returns-in-Ok-End-clause-replayed : goal.returns-in-Ok-End-clause-replayed
returns-in-Ok-End-clause-replayed g c = λ input old known told.
    let going = c.loop-number.invariant.going input old known told in
    let found = rw c.in-Ok-End.field-0-is at (c.in-Ok-End.ensures.found going.rest going.known) in
    leaves_end g.H.Serves.gives g.H.Serves.fails _ _ _ _ _ _ _ _ going (omega arith) _ _ found

pub returns-in-Ok-TooLong-clause-replayed : goal.returns-in-Ok-TooLong-clause-replayed
returns-in-Ok-TooLong-clause-replayed g c = λ input old known told.
    let going = c.loop-number.invariant.going input old known told in
    let found = rw c.in-Ok-TooLong.field-0-is at (c.in-Ok-TooLong.ensures.found going.rest going.known) in
    leaves_too_long g.H.Serves.gives g.H.Serves.fails _ _ _ _ _ _ _ _ going (omega arith) (omega arith) _ _ found

pub returns-in-Err-clause-replayed : goal.returns-in-Err-clause-replayed
returns-in-Err-clause-replayed g c = λ input old known told.
    leaves_read g.H.Serves.gives g.H.Serves.fails _ _ _ _ _ _ _ _ (c.loop-number.invariant.going input old known told) (omega arith) c.in-Err.ensures.failed

pub returns-in-Ok-End-next_line-clause-replayed : goal.returns-in-Ok-End-next_line-clause-replayed
returns-in-Ok-End-next_line-clause-replayed g c = λ input old known told.
    let going = c.loop-number.invariant.going input old known told in
    let found = rw c.in-Ok-End-next_line.field-0-is at (c.in-Ok-End-next_line.ensures.found going.rest going.known) in
    let all : c.loop-number.number ≡ most_lines = omega arith in
    rw (← all) (leaves_end g.H.Serves.gives g.H.Serves.fails _ _ _ _ _ _ _ _ going (omega arith) _ _ found)

pub returns-in-Ok-Line-next_line-clause-replayed :
    goal.returns-in-Ok-Line-next_line-clause-replayed
returns-in-Ok-Line-next_line-clause-replayed g c = λ input old known told.
    let going = c.loop-number.invariant.going input old known told in
    let found = rw c.in-Ok-Line-next_line.field-0-is at (c.in-Ok-Line-next_line.ensures.found going.rest going.known) in
    let all : c.loop-number.number ≡ most_lines = omega arith in
    leaves_more g.H.Serves.gives g.H.Serves.fails _ _ _ _ _ _ _ _ going (omega arith) all _ _ found

pub returns-in-Ok-TooLong-next_line-clause-replayed :
    goal.returns-in-Ok-TooLong-next_line-clause-replayed
returns-in-Ok-TooLong-next_line-clause-replayed g c = λ input old known told.
    let going = c.loop-number.invariant.going input old known told in
    let found = rw c.in-Ok-TooLong-next_line.field-0-is at (c.in-Ok-TooLong-next_line.ensures.found going.rest going.known) in
    let all : c.loop-number.number ≡ most_lines = omega arith in
    leaves_more_long g.H.Serves.gives g.H.Serves.fails _ _ _ _ _ _ _ _ going (omega arith) all _ _ found

pub returns-clause-replayed : goal.returns-clause-replayed
returns-clause-replayed g c = λ input old known told.
    leaves_read g.H.Serves.gives g.H.Serves.fails _ _ _ _ _ _ _ _ (c.loop-number.invariant.going input old known told) (omega arith) c.in-Err-next_line.ensures.failed

pub returns-in_err-event-in-Ok-Line-clause-replayed : goal.returns-in_err-event-in-Ok-Line-clause-replayed
returns-in_err-event-in-Ok-Line-clause-replayed g c = λ input old known told.
    let p = err_from_is_err_and c.from_residual-in_err-event-in-Ok-Line.result c.from_residual-in_err-event-in-Ok-Line.ensures.1 in
    let going = c.loop-number.invariant.going input old known told in
    let found = rw c.in-Ok-Line.field-0-is at (c.in-Ok-Line.ensures.found going.rest going.known) in
    let has = rw c.deref.ensures.value at c.in_err-event-in-Ok-Line.ensures.memory in
    rw (p.1, p.2) (leaves_memory_at g.H.Serves.gives g.H.Serves.fails _ _ _ _ _ _ _ _ going (omega arith) (omega arith) _ _ found has)

pub returns-in_default-clause-replayed : goal.returns-in_default-clause-replayed
returns-in_default-clause-replayed g c = λ input old known told.
    let going = c.loop-number.invariant.going input old known told in
    let found = rw c.in-Ok-Line.field-0-is at (c.in-Ok-Line.ensures.found going.rest going.known) in
    let none = rw (c.in_default.is, c.deref.ensures.value) at c.in_ok-event-in-Ok-Line.ensures.found in
    leaves_bad g.H.Serves.gives g.H.Serves.fails _ _ _ _ _ _ _ _ going (omega arith) (omega arith) _ _ found none

pub returns-in_err-replay_event-in-Ok-Line-clause-replayed : goal.returns-in_err-replay_event-in-Ok-Line-clause-replayed
returns-in_err-replay_event-in-Ok-Line-clause-replayed g c = λ input old known told.
    let p = err_from_is_err_and c.from_residual-in_err-replay_event-in-Ok-Line.result c.from_residual-in_err-replay_event-in-Ok-Line.ensures.1 in
    let going = c.loop-number.invariant.going input old known told in
    let found = rw c.in-Ok-Line.field-0-is at (c.in-Ok-Line.ensures.found going.rest going.known) in
    let is = rw (c.in-Some.is, c.deref.ensures.value) at c.in_ok-event-in-Ok-Line.ensures.found in
    rw (p.1, p.2) (leaves_event g.H.Serves.gives g.H.Serves.fails _ _ _ _ _ _ _ _ going (omega arith) (omega arith) _ _ _ _ _ _ found is c.in_err-replay_event-in-Ok-Line.ensures.ended)

pub loop-number-preserved : goal.loop-number-preserved
loop-number-preserved g c = record {
  line = omega (arith, c.loop-number.invariant.line, c.in-Ok-Line.ensures.room);
  room = omega (arith, c.loop-number.invariant.room, c.in_ok-replay_event-in-Ok-Line.ensures.room);
  handled = handles_more g.H.Serves.gives _ _ _ _ _ _ _ c.loop-number.invariant.handled c.in_ok-replay_event-in-Ok-Line.ensures.handled;
  going = λ input old known told.
      let going = c.loop-number.invariant.going input old known told in
      let found = rw c.in-Ok-Line.field-0-is at (c.in-Ok-Line.ensures.found going.rest going.known) in
      let is = rw (c.in-Some.is, c.deref.ensures.value) at c.in_ok-event-in-Ok-Line.ensures.found in
      going_line g.H.Serves.gives _ _ _ _ _ _ _ going _ _ _ _ _ found is c.in_ok-replay_event-in-Ok-Line.ensures.handled;
}

pub returns-in-Err-clause-whole : goal.returns-in-Err-clause-whole
returns-in-Err-clause-whole g c = λ is input old known told.
    let going = c.loop-number.invariant.going input old known told in
    inl (whole_read g.H.Serves.gives _ _ _ _ _ _ _ going _ (c.in-Err.ensures.cut going.rest going.known))

pub returns-clause-whole : goal.returns-clause-whole
returns-clause-whole g c = λ is input old known told.
    let going = c.loop-number.invariant.going input old known told in
    inl (whole_read g.H.Serves.gives _ _ _ _ _ _ _ going _ (c.in-Err-next_line.ensures.cut going.rest going.known))

pub returns-in-Ok-Line-next_line-clause-whole : goal.returns-in-Ok-Line-next_line-clause-whole
returns-in-Ok-Line-next_line-clause-whole g c = λ is input old known told.
    let all : c.loop-number.number ≡ most_lines = omega arith in
    inr (subst (λ n. Handles g.H.Serves.gives n c.args.server.now c.loop-number.server) all c.loop-number.invariant.handled)

pub returns-in-Ok-TooLong-next_line-clause-whole :
    goal.returns-in-Ok-TooLong-next_line-clause-whole
returns-in-Ok-TooLong-next_line-clause-whole g c = λ is input old known told.
    let all : c.loop-number.number ≡ most_lines = omega arith in
    inr (subst (λ n. Handles g.H.Serves.gives n c.args.server.now c.loop-number.server) all c.loop-number.invariant.handled)
