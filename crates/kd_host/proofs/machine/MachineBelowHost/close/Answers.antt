use Rattle.std.proofs.Common.{refl}
use Rattle.kd_host.proofs.machine.MachineBelowHost.close.Goals as goal

pub returns : goal.returns
returns g c = (c.let_go.result, refl, c.let_go.ensures)
