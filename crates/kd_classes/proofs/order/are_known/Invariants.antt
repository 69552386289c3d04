use Rattle.std.proofs.Common.{◌≡◌, drop}
use Rattle.std.specs.List.{list_all}
use Rattle.kd_classes.specs.Order.{known_after}
use Rattle.kd_classes.proofs.order.are_known.Given as goal

abbrev pub invariant-names : goal.invariant-names
invariant-names l = list_all (known_after l.earlier) (drop l.at l.program.names) ≡ list_all (known_after l.earlier) l.program.names
