use Rattle.std.proofs.Common.{◌<◌, arith, length}
use Rattle.kd_loops.proofs.Histories.{next_event, runs_fault, runs_none}
use Rattle.kd_loops.proofs.running.run_with.Goals as goal

pub returns-in-Err : goal.returns-in-Err
returns-in-Err g c = runs_none g.H.Serves.gives g.H.Serves.fails c.args.events.now _ c.args.server.now c.new.ensures.items

pub returns-in-Err-handle : goal.returns-in-Err-handle
returns-in-Err-handle g c =
    let l = c.loop-event in
    let less : l.event-index < length c.args.events.now = omega arith in
    runs_fault g.H.Serves.gives g.H.Serves.fails _ c.args.events.now _ l.server l.event-index c.event-item.result c.as_slice.result.now _ _ less c.event-item.is c.as_slice.ensures l.invariant.history c.in-Err-handle.ensures.failed

pub loop-event-preserved : goal.loop-event-preserved
loop-event-preserved g c =
    let l = c.loop-event in
    let less : l.event-index < length c.args.events.now = omega arith in
    let history = next_event g.H.Serves.gives _ c.args.events.now _ l.server l.event-index c.event-item.result c.as_slice.result.now _ _ less c.event-item.is c.as_slice.ensures l.invariant.history c.in-Ok-handle.ensures.handled in
    record {
      count = omega (arith, c.push_within.ensures.len, l.invariant.count);
      room = omega (arith, c.push_within.ensures.capacity, l.invariant.room);
      history = rw c.push_within.ensures.items history;
    }
