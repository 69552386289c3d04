use Rattle.std.proofs.Common.{◌∙◌, sym}
use Rattle.kd_lease.specs.Rules.{asking}
use Rattle.kd_lease.proofs.Homes.{kept_lasts}
use Rattle.kd_lease.proofs.checks.is_renewable.Goals as goal

pub returns-then-keeps_in_pool : goal.returns-then-keeps_in_pool
returns-then-keeps_in_pool c = sym (kept_lasts (asking c.args.question.now) c.args.address (sym c.keeps_in_pool.ensures ∙ c.if-keeps_in_pool.true))
