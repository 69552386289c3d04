use Rattle.kd_loops.proofs.Logs.{posted_said}
use Rattle.kd_loops.proofs.post.PostLink.now.Goals as goal

pub invariant_of-self : goal.invariant_of-self
invariant_of-self g c =
    let post = c.args.self.now in
    record { posted = posted_said g.I.Given.given post.input.now post.next post.moment _ _ post.posted c.note.ensures }
