use Rattle.std.proofs.Common.{◌+◌, ◌<◌, ◌∙◌, arith, length, refl, subst}
use Rattle.std.proofs.lemmas.List.Elements.{All-push}
use Rattle.kd_config.specs.Configuration.{Configuration}
use Rattle.kd_loops.specs.Text.{IsSmall}
use Rattle.kd_loops.proofs.Histories.{next_history, runs_fault}
use Rattle.kd_server.specs.Batch.{LeavesOut}
use Rattle.kd_server.specs.Server.{StepsTo}
use Rattle.kd_server.proofs.Batches.{left_rows, moved_more, moved_still}
use Rattle.kd_server.proofs.batching.handle_each.Goals as goal

pub returns-in-Err-clause-runs : goal.returns-in-Err-clause-runs
returns-in-Err-clause-runs c =
    let l = c.loop-event in
    let less : l.event-index < length c.args.events.now = omega arith in
    runs_fault (StepsTo c.args.leases.now.config c.args.ports) LeavesOut _ c.args.events.now _ l.leases.table.rows l.event-index c.event-item.result c.event-item.result.bytes _ _
    less c.event-item.is refl l.invariant.history c.in-Err.ensures.failed

pub returns-in-Err-clause-changes : goal.returns-in-Err-clause-changes
returns-in-Err-clause-changes c =
    let l = c.loop-event in
    moved_still (StepsTo c.args.leases.now.config c.args.ports) c.args.events.now c.args.leases.now.table.rows l.leases.table.rows l.set.items c.handle_one.new.leases.table.rows c.handle_one.new.set.items
    l.invariant.moved (left_rows c.in-Err.fault l.leases.table.rows c.event-item.result c.handle_one.new.leases.table.rows c.in-Err.ensures.failed) c.handle_one.ensures.set.moves

pub loop-event-preserved : goal.loop-event-preserved
loop-event-preserved c =
    let l = c.loop-event in
    let steps = StepsTo c.args.leases.now.config c.args.ports in
    let set = c.handle_one.ensures.set in
    let less : l.event-index < length c.args.events.now = omega arith in
    let step = subst (λ (k : Configuration). StepsTo k c.args.ports l.leases.table.rows c.event-item.result c.in-Ok.handled c.handle_one.new.leases.table.rows) l.invariant.config c.in-Ok.ensures.handled in
    let history = next_history steps _ c.args.events.now _ l.leases.table.rows l.event-index c.event-item.result _ _ less c.event-item.is l.invariant.history step in
    record {
      config = c.handle_one.ensures.config ∙ l.invariant.config;
      count = omega (arith, c.push_reserved.ensures.len, l.invariant.count);
      room = omega (arith, c.push_reserved.ensures.capacity, l.invariant.room);
      history = rw c.push_reserved.ensures.items history;
      small = rw c.push_reserved.ensures.items (All-push (λ handled. IsSmall handled.response) l.list.items c.in-Ok.handled l.invariant.small c.in-Ok.ensures.small);
      sets = set.sets c.args.leases.now.table.rows l.invariant.sets;
      ranges = set.ranges l.invariant.ranges;
      moved = moved_more steps c.args.events.now c.args.leases.now.table.rows l.leases.table.rows l.set.items c.handle_one.new.leases.table.rows c.handle_one.new.set.items (l.event-index + 1) _ history l.invariant.moved set.moves;
    }
