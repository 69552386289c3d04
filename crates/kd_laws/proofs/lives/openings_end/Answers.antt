use Rattle.kd_laws.proofs.Reported.{ends}
use Rattle.kd_laws.proofs.lives.openings_end.Goals as goal

pub returns : goal.returns
returns c start = λ config ports calls store left done clean. ends c.S.Keeps config ports calls store left done clean
