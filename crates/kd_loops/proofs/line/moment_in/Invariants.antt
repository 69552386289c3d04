use Rattle.std.proofs.Common.{◌≡◌, drop}
use Rattle.kd_loops.specs.Lines.{number_after}
use Rattle.kd_loops.proofs.line.moment_in.Given as goal

abbrev pub invariant-loop-digit : goal.invariant-loop-digit
invariant-loop-digit l = number_after l.number (drop l.digit-index l.digits) ≡ number_after 0 l.digits
