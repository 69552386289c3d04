use Rattle.std.proofs.Common.{◌≡◌, drop}
use Rattle.kd_program.specs.Advice.{defined}
use Rattle.kd_program.proofs.advice.defined_in.Given as goal

abbrev pub invariant-loop-at : goal.invariant-loop-at
invariant-loop-at l = defined l.classes l.name ≡ defined (drop l.at l.classes) l.name
