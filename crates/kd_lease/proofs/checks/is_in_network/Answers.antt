use Rattle.std.proofs.Common.{◌∙◌, sym}
use Rattle.kd_lease.specs.Rules.{asking}
use Rattle.kd_lease.proofs.Members.{part_covers}
use Rattle.kd_lease.proofs.checks.is_in_network.Goals as goal

pub returns-then-is_in_part : goal.returns-then-is_in_part
returns-then-is_in_part c = sym (part_covers (asking c.args.question.now) c.args.address (sym c.is_in_part.ensures ∙ c.if-is_in_part.true))
