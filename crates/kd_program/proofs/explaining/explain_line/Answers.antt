use Rattle.std.proofs.Common.{inr, refl}
use Rattle.kd_program.proofs.explaining.explain_line.Goals as goal

pub returns-in-Err : goal.returns-in-Err
returns-in-Err g c =
    inr (record {
      fault = c.in-Err.fault;
      unexplained = λ input tells. c.in-Err.ensures.explained input tells;
      output = refl;
      told = c.refuse_replay.ensures;
    })
