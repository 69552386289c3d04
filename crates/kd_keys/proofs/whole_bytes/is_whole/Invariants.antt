use Rattle.std.proofs.Common.{◌≡◌, length}
use Rattle.kd_keys.specs.Values.{has_whole_bytes}
use Rattle.kd_keys.proofs.whole_bytes.is_whole.Given as goal

abbrev pub invariant-loop-rest : goal.invariant-loop-rest
invariant-loop-rest l = has_whole_bytes l.text ≡ has_whole_bytes l.rest

abbrev pub decreases-loop-rest : goal.decreases-loop-rest
decreases-loop-rest l = length l.rest
