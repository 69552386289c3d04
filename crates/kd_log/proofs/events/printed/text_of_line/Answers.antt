use Rattle.std.proofs.Common.{inl, inr, subst}
use Rattle.kd_event.specs.declared.event.Response.{Response}
use Rattle.kd_log.specs.Logged.{IsHandledLine}
use Rattle.kd_log.proofs.events.printed.text_of_line.Goals as goal

pub returns : goal.returns
returns c =
    let handled = c.in-Some.handled in
    let is = rw c.in-Some.is at c.in_ok-handled.ensures.found in
    let quiet = subst (λ (r : Response). IsHandledLine c.args.line.now (record { now = handled.now; response = r })) c.in-Quiet.is is in
    inr (inl (handled.now, _, quiet), c.new-in-Quiet.ensures.bytes)
