use Rattle.std.proofs.Common.{append_assoc}
use Rattle.kd_explain.proofs.text.put_fault.Goals as goal

pub returns : goal.returns
returns c = rw (c.in_ok-push_str-2.ensures.bytes, c.in_ok-push_str.ensures.bytes, c.in_ok-write.ensures.bytes) (simp append_assoc)
