use Rattle.std.proofs.Common.{append_assoc}
use Rattle.kd_program.specs.Advice.{server_text}
use Rattle.kd_program.proofs.advice.put_server_line.Goals as goal

pub returns : goal.returns
unfolding server_text
returns c = rw (c.in_ok-push_str-3.ensures.bytes, c.in_ok-put_address.ensures, c.in_ok-push_str-2.ensures.bytes, c.in_ok-push_str.ensures.bytes) (simp append_assoc)
