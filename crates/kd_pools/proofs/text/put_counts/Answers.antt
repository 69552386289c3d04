use Rattle.std.proofs.Common.{append_assoc}
use Rattle.kd_pools.specs.Printed.{counts_text}
use Rattle.kd_pools.proofs.text.put_counts.Goals as goal

pub returns : goal.returns
unfolding counts_text
returns c = rw (c.in_ok-write-2.ensures.bytes, c.in_ok-write.ensures.bytes) (simp append_assoc)
