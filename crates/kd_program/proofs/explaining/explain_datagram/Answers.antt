use Rattle.std.proofs.Common.{ℕ, inr, refl, subst}
use Rattle.kd_program.specs.Streams.{TellsWith, written_to}
use Rattle.kd_answers.specs.Status.{status_of}
use Rattle.kd_program.proofs.explaining.explain_datagram.Goals as goal

pub returns-in-Err : goal.returns-in-Err
returns-in-Err g c =
    inr (
      c.in-Err.fault,
      c.in-Err.ensures.fault,
      (
        refl,
        subst (λ (n : ℕ). TellsWith n (status_of n) c.refuse.result (written_to g.E.Sink c.args.ends.now.faults) (written_to g.E.Sink c.refuse.new.faults)) c.number.ensures c.refuse.ensures,
      ),
    )
