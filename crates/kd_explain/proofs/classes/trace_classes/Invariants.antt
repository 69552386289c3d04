use Rattle.std.proofs.Common.{drop}
use Rattle.kd_explain.proofs.Testing.{Leads}
use Rattle.kd_explain.proofs.classes.trace_classes.Given as goal

abbrev pub invariant-loop-i : goal.invariant-loop-i
invariant-loop-i l = Leads l.message l.classes l.initial.names l.outcomes.items l.names (drop l.i l.classes)
