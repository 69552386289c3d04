use Rattle.std.proofs.Common.{refl, inr}
use Rattle.kd_program.specs.Streams.{written_to}
use Rattle.kd_program.proofs.Told.{told_own}
use Rattle.kd_program.proofs.looking.look.Goals as goal

pub returns : goal.returns
returns g c = inr (c.in-Err.fault, c.in-Err.ensures.given, (refl, told_own _ _ _ (written_to g.E.Sink c.args.ends.now.faults) _ c.number.ensures c.refuse.ensures))
