use Rattle.kd_store.proofs.Reopening.{reopens}
use Rattle.kd_store.proofs.laws.reopens.Goals as goal

pub returns : goal.returns
returns g c = reopens g.D.Disk g.E.Disk
