use Rattle.kd_program.specs.Streams.{written_to}
use Rattle.kd_program.proofs.Told.{told_as}
use Rattle.kd_program.proofs.printing.refuse_replay.Goals as goal

pub returns : goal.returns
returns g c = told_as _ _ _ _ _ (written_to g.E.Sink c.args.faults.now) _ c.number.ensures c.replay_status.ensures c.refuse_as.ensures
