use Rattle.std.proofs.Common.{append_assoc}
use Rattle.kd_program.specs.Advice.{hidden_text}
use Rattle.kd_program.proofs.hiding.put_hidden_line.Goals as goal

pub returns : goal.returns
unfolding hidden_text
returns c =
    rw
    (c.in_ok-push_str-4.ensures.bytes, c.in_ok-put_prefix-2.ensures, c.in_ok-push_str-3.ensures.bytes, c.in_ok-put_prefix.ensures, c.in_ok-push_str-2.ensures.bytes, c.in_ok-push_str.ensures.bytes)
    (simp append_assoc)
