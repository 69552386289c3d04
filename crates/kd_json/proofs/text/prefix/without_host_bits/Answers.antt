use Rattle.std.proofs.Common.{arith}
use Rattle.kd_json.proofs.Blocks.{cleared_within}
use Rattle.kd_json.proofs.text.prefix.without_host_bits.Goals as goal

pub returns-clause-within : goal.returns-clause-within
returns-clause-within c = rw (c.from.ensures, c.size-size.ensures) (cleared_within c.args.address c.args.length (omega arith))
