use Rattle.kd_token.specs.Table.{IsAt}
use Rattle.kd_token.proofs.verifier.pass.Given as goal

abbrev pub invariant-tokens : goal.invariant-tokens
invariant-tokens l = IsAt l.program l.at l.table
