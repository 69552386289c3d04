use Rattle.std.proofs.Common.{◌≡◌, ap, sym}
use Rattle.kd_event.specs.declared.event.Event.{Event}
use Rattle.kd_loops.proofs.Logs.{posted_came}
use Rattle.kd_loops.proofs.post.Post.give.Goals as goal

pub invariant_of-self : goal.invariant_of-self
invariant_of-self g c =
    let post = c.args.self.now in
    let event = c.index-self-self.result in
    let same : c.as_slice-bytes.result.now ≡ event.bytes = cc in
    let noted = rw same at c.deliver.ensures.noted in
    let said = ap (λ (e : Event). e.moment) (sym c.index-self-self.is) in
    record { posted = posted_came g.I.Given.given post.input.now post.next post.moment _ _ event c.args.waited _ said post.posted c.requires c.index-self-self.is noted }
