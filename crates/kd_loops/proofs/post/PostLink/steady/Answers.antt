use Rattle.kd_loops.proofs.Logs.{posted_passed}
use Rattle.kd_loops.proofs.post.PostLink.steady.Goals as goal

pub invariant_of-self : goal.invariant_of-self
invariant_of-self g c =
    let post = c.args.self.now in
    record { posted = posted_passed g.I.Given.given post.input.now post.next post.moment _ _ _ post.posted c.note.ensures }
