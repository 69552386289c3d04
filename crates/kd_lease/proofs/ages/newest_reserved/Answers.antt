use Rattle.std.proofs.Common.{◌∙◌, sym}
use Rattle.kd_lease.specs.Rules.{asking}
use Rattle.kd_lease.proofs.Aged.{reserved_it, reserved_none, reserved_not_it}
use Rattle.kd_lease.proofs.ages.newest_reserved.Goals as goal

pub returns-then-is_sought : goal.returns-then-is_sought
returns-then-is_sought c = reserved_it (asking c.args.question.now) c.args.sought.now c.args.own c.in-Some.address c.in-Some.is (sym c.is_sought.ensures ∙ c.if-is_sought.true)

pub returns-else-is_sought : goal.returns-else-is_sought
returns-else-is_sought c = reserved_not_it (asking c.args.question.now) c.args.sought.now c.args.own c.in-Some.address c.in-Some.is (sym c.is_sought.ensures ∙ c.if-is_sought.false)

pub returns-in-None : goal.returns-in-None
returns-in-None c = reserved_none (asking c.args.question.now) c.args.sought.now c.args.own c.in-None.is
