use Rattle.kd_database.proofs.Opening.{restarts}
use Rattle.kd_database.proofs.stops.restarts.Goals as goal

pub returns : goal.returns
returns g c = restarts g.D.Disk g.E.Disk c.reopens.ensures
