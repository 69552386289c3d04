use Rattle.std.proofs.Common.{length, ◌-◌}
use Rattle.kd_machine.specs.Fits.{IsRunning}
use Rattle.kd_machine.proofs.run.within.Given as goal

abbrev pub invariant-tokens : goal.invariant-tokens
invariant-tokens g l = IsRunning l.verified l.message l.held l.steps (record {
  spot = record { at = l.at; stack = l.stack };
  peak_depth = l.peak_depth;
  peak_length = l.peak_length;
})

abbrev pub decreases-tokens : goal.decreases-tokens
decreases-tokens g l = length l.tokens - l.at
