use Rattle.std.proofs.Common.{length, arith, rules, append_assoc}
use Rattle.std.proofs.lemmas.Bool.{lt-leb}
use Rattle.kd_check.proofs.Cuts.{floor_is}
use Rattle.kd_check.proofs.value.put_cut.Goals as goal

pub returns : goal.returns
returns c =
    let text = c.args.text.now in
    let at = c.floor_char_boundary.ensures in
    let place = floor_is text 64 c.floor_char_boundary.result (omega arith) at.bound at.boundary at.nearest in
    rw (lt-leb (length text) 64 (omega arith), place, ← append_assoc) (search rules)
