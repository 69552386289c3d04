use Rattle.std.proofs.Common.{arith}
use Rattle.kd_token.proofs.Read.{is_first, is_only, parts_spelled}
use Rattle.kd_token.proofs.program.Program.read.Goals as goal

pub returns-clause-only : goal.returns-clause-only
returns-clause-only c = is_only c.args.bytes.now c.whole.result c.whole.ensures.read

pub returns-clause-first : goal.returns-clause-first
returns-clause-first c = is_first c.args.bytes.now c.whole.result (λ i. omega (arith, c.type_inv.bytes i)) c.whole.ensures.read

pub returns-clause-fields : goal.returns-clause-fields
returns-clause-fields c = parts_spelled
