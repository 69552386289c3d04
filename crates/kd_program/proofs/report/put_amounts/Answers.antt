use Rattle.std.proofs.Common.{append_assoc}
use Rattle.kd_program.specs.Advice.{size_text}
use Rattle.kd_program.proofs.report.put_amounts.Goals as goal

pub returns : goal.returns
unfolding size_text
returns c = rw (c.in_ok-push_str-2.ensures.bytes, c.in_ok-write.ensures.bytes, c.in_ok-push_str.ensures.bytes) (simp append_assoc)
