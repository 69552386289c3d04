use Rattle.std.proofs.Common.{◌≡◌, ◌≤◌, List, arith, length, subst, sym}
use Rattle.kd_event.specs.declared.event.Event.{Event}
use Rattle.kd_loops.specs.Answering.{Gathers}
use Rattle.kd_loops.specs.Serving.{Timed}
use Rattle.kd_loops.proofs.Batches.{cut_one, ends_fault, failed_one, served_one}
use Rattle.kd_loops.proofs.serving.serve_batch.Goals as goal

pub returns-in-Err-answer_all-clause-ended : goal.returns-in-Err-answer_all-clause-ended
returns-in-Err-answer_all-clause-ended g c =
    let old : Timed g.row.H.Denot = record { server = c.args.server.now; clocks = c.args.watch.clocks } in
    let gathered = subst (λ (es : List Event). Gathers (g.L.Link.trace c.args.link.now) (g.L.Link.trace c.gather.new.link) es) (sym c.split_at.ensures.front) c.in-Ok.ensures.gathered in
    let cut = rw c.deref.ensures.value at c.in-Err-answer_all.ensures.answered in
    let few : length c.split_at.result.0.now ≤ c.args.left = omega (arith, c.split_at.ensures.front_len, c.in-Ok.ensures.few) in
    let in_time = rw c.latest.ensures at (sym c.if-some_ahead.ensures) in
    cut_one c.args.watch.limit g.H.ServesAll.latest g.H.ServesAll.batches old _ c.ask-asked.result _ _ _ _ _ gathered c.ask-asked.ensures.asked _ _ _ _ _ _ in_time c.in_default-record_all.ensures.recorded c.handle_all-list.ensures.batch c.args.left few cut

pub returns-in-Some-clause-ended : goal.returns-in-Some-clause-ended
returns-in-Some-clause-ended g c =
    let old : Timed g.row.H.Denot = record { server = c.args.server.now; clocks = c.args.watch.clocks } in
    let gathered = subst (λ (es : List Event). Gathers (g.L.Link.trace c.args.link.now) (g.L.Link.trace c.gather.new.link) es) (sym c.split_at.ensures.front) c.in-Ok.ensures.gathered in
    let told = rw c.deref.ensures.value at c.in_default-answer_all.ensures.answered in
    let few : length c.split_at.result.0.now ≤ c.args.left = omega (arith, c.split_at.ensures.front_len, c.in-Ok.ensures.few) in
    let in_time = rw c.latest.ensures at (sym c.if-some_ahead.ensures) in
    rw c.loop_fault.ensures (ends_fault c.args.watch.limit g.H.ServesAll.latest g.H.ServesAll.batches c.in-Some.fault _ old _ _ _
    (failed_one c.args.watch.limit g.H.ServesAll.latest g.H.ServesAll.batches old _ c.ask-asked.result _ _ _ _ _ gathered c.ask-asked.ensures.asked _ _ _ _ _ _ in_time c.in_default-record_all.ensures.recorded c.handle_all-list.ensures.batch c.in-Some.fault c.args.left c.in-Some.is few told))

pub returns-clause-served : goal.returns-clause-served
returns-clause-served g c =
    let old : Timed g.row.H.Denot = record { server = c.args.server.now; clocks = c.args.watch.clocks } in
    let gathered = subst (λ (es : List Event). Gathers (g.L.Link.trace c.args.link.now) (g.L.Link.trace c.gather.new.link) es) (sym c.split_at.ensures.front) c.in-Ok.ensures.gathered in
    let told = rw c.deref.ensures.value at c.in_default-answer_all.ensures.answered in
    let counted : c.in-Ok.count ≡ length c.split_at.result.0.now = sym c.split_at.ensures.front_len in
    let in_time = rw c.latest.ensures at (sym c.if-some_ahead.ensures) in
    served_one c.args.watch.limit g.H.ServesAll.latest g.H.ServesAll.batches old _ c.ask-asked.result _ _ _ _ _ gathered c.ask-asked.ensures.asked _ _ _ _ _ _ in_time c.in_default-record_all.ensures.recorded c.handle_all-list.ensures.batch c.in-Ok.count c.in-None.is counted told
