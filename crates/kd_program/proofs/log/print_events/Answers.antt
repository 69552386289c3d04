use Rattle.std.proofs.Common.{Err}
use Rattle.kd_program.proofs.log.print_events.Goals as goal

pub returns-in-Err : goal.returns-in-Err
returns-in-Err g c = record {
  result = Err c.in-Err.fault;
  prints = record { printed = c.in-Err.ensures.printed; read = c.in-Err.ensures.read; write = c.in-Err.ensures.write };
  ends = c.refuse_replay.ensures;
}
