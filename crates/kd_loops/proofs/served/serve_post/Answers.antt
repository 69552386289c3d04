use Rattle.std.proofs.Common.{Some, ap, refl}
use Rattle.kd_loops.proofs.Logs.{has_come, records_all, serves_all}
use Rattle.kd_loops.proofs.served.serve_post.Goals as goal

pub returns-clause-came : goal.returns-clause-came
returns-clause-came g c =
    let post = c.serve-end.new.link in
    has_come g.I.Given.given post.input.now c.args.input.now post.next post.moment c.in_ok-post.field-0.items c.requires.input (rw c.in_ok-post.was at post.posted)

pub returns-clause-all : goal.returns-clause-all
returns-clause-all g c =
    let post = c.serve-end.new.link in
    let came = has_come g.I.Given.given post.input.now c.args.input.now post.next post.moment c.in_ok-post.field-0.items c.requires.input (rw c.in_ok-post.was at post.posted) in
    serves_all g.H.ServesAll.latest g.H.ServesAll.batches c.args.input.now c.in_ok-post.field-0.items c.in_ok-journal.field-0.bytes.items _ _ _ _ came
    (ap (λ items. Some items) c.new.ensures.items) (rw c.in_ok-post.was refl) (ap (λ items. Some items) c.new-2.ensures.bytes) (rw c.in_ok-journal.was refl)
    c.serve-end.result c.serve-end.ensures.served

pub returns-clause-recorded : goal.returns-clause-recorded
returns-clause-recorded g c =
    let post = c.serve-end.new.link in
    let came = has_come g.I.Given.given post.input.now c.args.input.now post.next post.moment c.in_ok-post.field-0.items c.requires.input (rw c.in_ok-post.was at post.posted) in
    records_all g.H.ServesAll.latest g.H.ServesAll.batches c.args.input.now c.in_ok-post.field-0.items c.in_ok-journal.field-0.bytes.items _ _ _ _ came
    (ap (λ items. Some items) c.new.ensures.items) (rw c.in_ok-post.was refl) (ap (λ items. Some items) c.new-2.ensures.bytes) (rw c.in_ok-journal.was refl)
    c.serve-end.result c.serve-end.ensures.served
