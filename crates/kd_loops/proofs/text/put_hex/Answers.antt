use Rattle.std.proofs.Common.{arith}
use Rattle.kd_loops.proofs.Texts.{hex_length}
use Rattle.kd_loops.proofs.text.put_hex.Goals as goal

pub overflow_add-start : goal.overflow_add-start
overflow_add-start c = omega (arith, hex_length c.args.bytes.now, c.requires, c.len-start.ensures)

pub unreachable-requires : goal.unreachable-requires
unreachable-requires c = omega (arith, hex_length c.args.bytes.now, c.requires, c.len-start.ensures, c.in-Err.ensures.full)
