use Rattle.kd_lease.proofs.Aged.{past_ranked}
use Rattle.kd_lease.proofs.search.newest_past.Goals as goal

pub returns : goal.returns
returns c = past_ranked c.args.choosing c.newest.result c.newest.ensures
