use Rattle.kd_laws.proofs.Lasting.{last_alike}
use Rattle.kd_laws.proofs.granted.leases_last_alike.Goals as goal

pub returns : goal.returns
returns c = last_alike
