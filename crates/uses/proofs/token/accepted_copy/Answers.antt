use Rattle.std.proofs.Common.{rules}
use Rattle.kd_token.specs.File.{IsFileOf}
use Rattle.uses.proofs.token.accepted_copy.Goals as goal

pub returns-clause-accepted : goal.returns-clause-accepted
returns-clause-accepted c =
    let program = c.in_ok-verified.verified in
    let file : IsFileOf c.in_ok-copy.copy.items program = search rules in
    (program, file, c.program.ensures.accepted)
