use Rattle.std.proofs.Common.{ap, ◌∙◌, subst, Ok}
use Rattle.std.specs.Prelude.{⊤}
use Rattle.kd_token.specs.File.{Code}
use Rattle.kd_answers.specs.Printed.{IsSuccess, accepted_line}
use Rattle.kd_answers.specs.declared.printed.Printed.{Printed}
use Rattle.kd_answers.proofs.Verifying.{accepts, refuses}
use Rattle.kd_answers.proofs.token_file.verify_program.Goals as goal

-- what is said of an accepted program
abbrev declares : Code → Printed → Type 0
declares c p = IsSuccess (accepted_line c) p

pub returns-in-Ok : goal.returns-in-Ok
returns-in-Ok c =
    let is = c.in_ok-accepted_text-in-Ok.ensures ∙ ap accepted_line c.program.ensures.program in
    let line = subst (λ text. IsSuccess text c.success.result) is c.success.ensures in
    accepts {E = ⊤} declares c.args.program c.in-Ok.verified (Ok c.success.result) c.in-Ok.ensures.accepted c.program.ensures.accepted line

pub returns : goal.returns
returns c =
    let e = c.in-Err.ensures in
    refuses declares c.args.program c.in-Err.fault c.refused_program.result c.refused_program.ensures.ours e.only e.refused.1 e.right c.refused_program.ensures.line
