use Rattle.std.proofs.Common.{◌≡◌, drop}
use Rattle.kd_classes.specs.Boot.{boot_or, first_boot}
use Rattle.kd_lease.proofs.booting.first_of.Given as goal

abbrev pub invariant-loop-boot : goal.invariant-loop-boot
invariant-loop-boot l = boot_or l.found (first_boot (drop l.boot-index l.boots)) ≡ first_boot l.boots
