use Rattle.std.proofs.Common.{Ok, Err, refl}
use Rattle.kd_program.proofs.serving.replay_input.Goals as goal

pub returns-in-Ok : goal.returns-in-Ok
returns-in-Ok g c = record {
  result = Ok c.in-Ok.field-0;
  replayed = c.in-Ok.ensures.replayed;
  ends = (refl, refl);
}

pub returns-in-Err : goal.returns-in-Err
returns-in-Err g c = record {
  result = Err c.in-Err.fault;
  replayed = c.in-Err.ensures.replayed;
  ends = c.refuse_replay.ensures;
}
