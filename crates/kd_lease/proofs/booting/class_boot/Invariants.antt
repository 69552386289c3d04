use Rattle.std.proofs.Common.{◌≡◌, take}
use Rattle.kd_classes.specs.Boot.{first_boot}
use Rattle.kd_lease.specs.Booting.{class_boots}
use Rattle.kd_lease.proofs.booting.class_boot.Given as goal

abbrev pub invariant-loop-i : goal.invariant-loop-i
invariant-loop-i l = l.found ≡ first_boot (class_boots (take l.i l.classes) l.names)
