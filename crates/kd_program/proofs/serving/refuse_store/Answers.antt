use Rattle.kd_program.specs.Streams.{written_to}
use Rattle.kd_program.proofs.Told.{told_own}
use Rattle.kd_program.proofs.serving.refuse_store.Goals as goal

pub returns : goal.returns
returns g c = told_own _ _ _ (written_to g.E.Sink c.args.faults.now) _ c.number.ensures c.refuse.ensures
