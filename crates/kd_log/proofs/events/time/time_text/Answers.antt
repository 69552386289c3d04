use Rattle.std.proofs.Common.{inl}
use Rattle.std.proofs.lemmas.Result.{IfOk-weaker}
use Rattle.kd_log.proofs.events.time.time_text.Goals as goal

pub returns-in-Some : goal.returns-in-Some
returns-in-Some c =
    IfOk-weaker c.format.result _ _ (λ text is. inl (record { early = c.in-Some.ensures.0; clock = c.in-Some.clock; at = c.in-Some.ensures.1; text_is = is })) c.format.ensures.ok
