use Rattle.std.proofs.Common.{ap}
use Rattle.kd_lease.specs.Rules.{asking}
use Rattle.kd_lease.proofs.Founded.{founded_if}
use Rattle.kd_lease.proofs.effects.effect.Goals as goal

pub effect_by-requires-clause-founded : goal.effect_by-requires-clause-founded
effect_by-requires-clause-founded c =
    let matter = c.new-matter.result in
    founded_if (asking c.args.question.now) (asking matter.question.now) matter.kind matter.address matter.rule c.ending_of.result (ap asking c.new-matter.ensures.question) matter.ruled c.new-matter.ensures.about c.ending_of.ensures
