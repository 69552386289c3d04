use Rattle.hex.proofs.HexLemmas.{decode_of-ok}
use Rattle.kd_text.proofs.bytes.bytes_of_hex.Goals as goal

pub returns-in-Ok-clause-bytes : goal.returns-in-Ok-clause-bytes
returns-in-Ok-clause-bytes c = rw c.own.ensures (decode_of-ok c.args.text.now c.in-Ok.bytes.items c.in-Ok.ensures.ok).3
