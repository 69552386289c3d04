use Rattle.kd_json.proofs.objects.program.verify_program.Goals as goal

pub returns-clause-refused : goal.returns-clause-refused
returns-clause-refused c =
    λ other accepts. c.verify_refusal.ensures other (c.in-Err.ensures.only accepts)
