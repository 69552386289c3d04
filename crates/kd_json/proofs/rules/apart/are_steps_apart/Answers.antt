use Rattle.std.proofs.Common.{arith, sym, ◌∙◌}
use Rattle.kd_json.proofs.Steps.{any_step_shared, more_steps, steps_apart}
use Rattle.kd_json.proofs.rules.apart.are_steps_apart.Goals as goal

pub returns-then-shares : goal.returns-then-shares
returns-then-shares c = sym (any_step_shared c.args.ranges.now c.loop-i.i _ _ (omega arith) (omega arith) (sym c.shares.ensures ∙ c.if-shares.true))

pub loop-i-preserved : goal.loop-i-preserved
loop-i-preserved c = more_steps c.args.ranges.now c.loop-i.i _ _ (omega arith) (omega arith) c.loop-i.invariant (sym c.shares.ensures ∙ c.if-shares.false)

pub returns : goal.returns
returns c = sym (steps_apart c.args.ranges.now c.requires (λ k d within. c.loop-i.invariant k d (omega arith)))
