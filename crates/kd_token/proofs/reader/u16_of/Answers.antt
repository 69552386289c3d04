use Rattle.std.proofs.Common.{arith}
use Rattle.kd_token.proofs.Numbers.{two_bytes}
use Rattle.kd_token.proofs.reader.u16_of.Goals as goal

pub returns-clause-spelled : goal.returns-clause-spelled
returns-clause-spelled c = two_bytes c.args.bytes.now c.read_u16.result c.requires (λ i. omega (arith, c.type_inv.bytes i)) c.read_u16.ensures
