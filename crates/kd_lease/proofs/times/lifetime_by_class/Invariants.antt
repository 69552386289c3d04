use Rattle.std.proofs.Common.{◌≡◌, take}
use Rattle.kd_lease.specs.Times.{class_lifetime}
use Rattle.kd_lease.proofs.times.lifetime_by_class.Given as goal

abbrev pub invariant-loop-i : goal.invariant-loop-i
invariant-loop-i l = l.found ≡ class_lifetime (take l.i l.classes) l.names
