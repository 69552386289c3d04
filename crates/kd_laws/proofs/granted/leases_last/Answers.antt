use Rattle.kd_laws.proofs.Lasting.{leases_last}
use Rattle.kd_laws.proofs.granted.leases_last.Goals as goal

pub returns : goal.returns
returns c = leases_last
