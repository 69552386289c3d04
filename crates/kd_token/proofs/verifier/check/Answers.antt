use Rattle.std.proofs.Common.{◌∙◌, ◌+◌, length, ap}
use Rattle.kd_token.proofs.Visits.{begins}
use Rattle.kd_token.proofs.verifier.check.Goals as goal

pub pass-requires : goal.pass-requires
pass-requires c =
    rw c.deref_mut.ensures.value (begins c.args.program.now c.in_ok-table.table.items (c.in_ok-table.ensures.length ∙ ap (λ xs. length xs + 1) c.tokens.ensures.tokens) c.in_ok-table.ensures.origin c.in_ok-table.ensures.beyond)
