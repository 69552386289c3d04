use Rattle.std.proofs.Common.{refl, arith}
use Rattle.std.proofs.lemmas.Bool.{false≢true}
use Rattle.kd_rows.proofs.Places.{accepted_all, not_above}
use Rattle.kd_rows.proofs.rows.Rows.accepts.Goals as goal

pub returns-then-rows-i : goal.returns-then-rows-i
returns-then-rows-i c = (λ h. absurd (false≢true h), λ h. absurd (not_above c.args.rows.now c.loop-i.i c.index-rows-i-then-i-gt0.result c.index-rows-i-then-i-gt0-2.result c.if-i-gt0.true c.loop-i-test.true c.if-rows-i.true h.0))

pub returns : goal.returns
returns c = (λ h. accepted_all c.args.rows.now c.loop-i.i (omega arith) c.loop-i.invariant, λ h. refl)
