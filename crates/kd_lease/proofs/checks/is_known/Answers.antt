use Rattle.std.proofs.Common.{◌∙◌, sym}
use Rattle.kd_lease.specs.Rules.{asking}
use Rattle.kd_lease.proofs.Homes.{known_here}
use Rattle.kd_lease.proofs.checks.is_known.Goals as goal

pub returns-then-is_record_at : goal.returns-then-is_record_at
returns-then-is_record_at c = known_here (asking c.args.question.now) c.args.address (sym c.is_record_at.ensures ∙ c.if-is_record_at.true)
