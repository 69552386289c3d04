use Rattle.std.proofs.Common.{◌≤◌, length}
use Rattle.kd_classes.specs.Order.{AreInOrderTo}
use Rattle.kd_classes.proofs.order.check.Given as goal

abbrev pub invariant-definitions : goal.invariant-definitions
invariant-definitions l = (length l.definitions ≤ 256) × AreInOrderTo l.definitions l.index
