use Rattle.std.proofs.Common.{◌≡◌, take}
use Rattle.std.specs.List.{list_any}
use Rattle.kd_config.specs.Booted.{class_gives_boot}
use Rattle.kd_config.proofs.config.has_class_boot.Given as goal

abbrev pub invariant-loop-i : goal.invariant-loop-i
invariant-loop-i l = l.found ≡ list_any class_gives_boot (take l.i l.classes)
