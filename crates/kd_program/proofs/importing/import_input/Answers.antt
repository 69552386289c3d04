use Rattle.std.proofs.Common.{inl, inr, refl, ap, ⊎_elim, Err}
use Rattle.kd_program.specs.Streams.{written_to}
use Rattle.kd_program.proofs.Imported.{input_refused}
use Rattle.kd_program.proofs.importing.import_input.Goals as goal

pub returns-in-Err : goal.returns-in-Err
returns-in-Err g c = inr (
  refl,
  ⊎_elim
      (λ unread. inl (record { why = unread.0; told = (refl, unread.1) }))
      (λ memory. inr (refl, memory))
      (input_refused c.in-Err.fault _ _ (written_to g.E.Sink c.args.ends.now.faults) _ (λ is. c.in-Err.ensures.unread (ap (λ f. Err f) is)) c.number.ensures c.refuse.ensures),
)
