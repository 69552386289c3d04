use Rattle.std.proofs.Common.{◌∙◌, sym}
use Rattle.kd_lease.specs.Rules.{asking}
use Rattle.kd_lease.proofs.Homes.{kept_covers}
use Rattle.kd_lease.proofs.checks.is_here.Goals as goal

pub returns-then-keeps : goal.returns-then-keeps
returns-then-keeps c = sym (kept_covers (asking c.args.question.now) c.args.address (sym c.keeps.ensures ∙ c.if-keeps.true))
