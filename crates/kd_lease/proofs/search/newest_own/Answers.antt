use Rattle.kd_lease.proofs.Aged.{own_ranked}
use Rattle.kd_lease.proofs.search.newest_own.Goals as goal

pub returns : goal.returns
returns c = own_ranked c.args.choosing c.newest.result c.newest.ensures
