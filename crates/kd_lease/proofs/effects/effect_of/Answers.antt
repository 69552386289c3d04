use Rattle.kd_lease.specs.Decided.{outcome_for}
use Rattle.kd_lease.specs.Rules.{asking}
use Rattle.kd_lease.proofs.Guards.{set_now}
use Rattle.kd_lease.proofs.effects.effect_of.Goals as goal

pub returns-clause-set : goal.returns-clause-set
returns-clause-set c = set_now (asking c.args.question.now) c.in_ok-verdict.verdict.row (outcome_for (asking c.args.question.now) c.in_ok-verdict.verdict.answer) c.in_ok-verdict.ensures c.requires c.be_sound.ensures
