use Rattle.std.proofs.Common.{◌∙◌}
use Rattle.kd_lease.specs.Rules.{asking}
use Rattle.kd_lease.proofs.Records.{found_if}
use Rattle.kd_lease.proofs.search.is_found_in.Goals as goal

pub returns : goal.returns
returns c = c.is_some.ensures ∙ found_if (asking c.args.question.now) c.args.prefix c.last.result c.next_of_client.result c.last.ensures c.next_of_client.ensures
