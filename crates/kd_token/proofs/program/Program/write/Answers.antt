use Rattle.kd_token.proofs.Again.{are_short}
use Rattle.kd_token.proofs.program.Program.write.Goals as goal

pub put_tokens-requires-clause-each : goal.put_tokens-requires-clause-each
put_tokens-requires-clause-each c = rw c.deref-2.ensures.value (are_short c.self.inside.version c.self.inside.tokens.items c.self.invariant.tokens)
