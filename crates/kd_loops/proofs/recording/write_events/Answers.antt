use Rattle.std.proofs.Common.{◌≡◌, ◌<◌, ℕ, List, arith, length, refl, subst}
use Rattle.std.proofs.lemmas.Result.{err_from_is_err_and}
use Rattle.kd_loops.specs.Parts.{WritesPart}
use Rattle.kd_loops.specs.Recording.{record_line}
use Rattle.kd_loops.proofs.Written.{part_of}
use Rattle.kd_loops.proofs.recording.write_events.Goals as goal

pub returns-in_err-write_all-clause-recorded : goal.returns-in_err-write_all-clause-recorded
returns-in_err-write_all-clause-recorded g c =
    let l = c.loop-event in
    let less : l.event-index < length c.args.events.now = omega arith in
    let p = err_from_is_err_and c.from_residual.result c.from_residual.ensures.1 in
    let same : c.as_slice.result.now ≡ record_line c.event-item.result =
    rw (c.as_slice.ensures.value, c.put_event.ensures.items, c.clear.ensures.items, c.moment.ensures, c.bytes.ensures.value) refl in
    rw (p.1) (part_of record_line c.args.events.now l.event-index c.event-item.result _ _ _ less c.event-item.is l.invariant.written
    (subst (λ (t : List ℕ). WritesPart (g.R.Sink.contents l.sink) (g.R.Sink.contents c.write_all.new.sink) t) same c.in_err-write_all.ensures.written))
