use Rattle.std.proofs.Common.{◌≡◌, vec_len}
use Rattle.kd_loops.proofs.serving.Work.new.Given as goal

abbrev pub invariant-loop : goal.invariant-loop
invariant-loop l = vec_len l.buffers ≡ l.counter
