use Rattle.std.proofs.Common.{inr, refl}
use Rattle.kd_program.proofs.Imported.{lines_refused}
use Rattle.kd_program.specs.Streams.{written_to}
use Rattle.kd_program.proofs.importing.import_text.Goals as goal

pub returns-in-Err : goal.returns-in-Err
returns-in-Err g c = inr (refl, lines_refused c.args.text.now c.in-Err.fault _ _ (written_to g.E.Sink c.args.faults.now) _ c.in-Err.ensures.fault c.number.ensures c.refuse.ensures)
