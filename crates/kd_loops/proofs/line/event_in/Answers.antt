use Rattle.kd_loops.proofs.Spelling.{not_without_bytes, not_without_moment, not_without_space}
use Rattle.kd_loops.proofs.line.event_in.Goals as goal

pub returns-in_default-clause-found : goal.returns-in_default-clause-found
returns-in_default-clause-found c = not_without_space c.args.line.now c.in_default.ensures

pub returns-in_default-moment_in-clause-found : goal.returns-in_default-moment_in-clause-found
returns-in_default-moment_in-clause-found c =
    not_without_moment c.args.line.now c.in-Some.digits.now c.in-Some.text.now c.in-Some.ensures.0 c.in-Some.ensures.1 c.in_default-moment_in.ensures

pub returns-in_default-2-clause-found : goal.returns-in_default-2-clause-found
returns-in_default-2-clause-found c =
    let none = rw c.in_default-2.is at c.in_ok-bytes.ensures.found in
    not_without_bytes c.args.line.now c.in-Some.digits.now c.in-Some.text.now c.in-Some.ensures.0 c.in-Some.ensures.1 none
