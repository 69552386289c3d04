use Rattle.std.proofs.Common.{◌≡◌, ◌++◌, drop}
use Rattle.kd_config.proofs.copies.boots_copied.Given as goal

abbrev pub invariant-loop-boot : goal.invariant-loop-boot
invariant-loop-boot l = l.list.items ++ drop l.boot-index l.boots ≡ l.boots
