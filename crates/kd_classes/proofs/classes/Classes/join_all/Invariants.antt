use Rattle.std.proofs.Common.{ℕ, List, drop}
use Rattle.kd_classes.specs.HeldSet.{JoinInOrder}
use Rattle.kd_classes.proofs.classes.Classes.join_all.Given as goal

abbrev pub invariant-definitions : goal.invariant-definitions
invariant-definitions l = (names : List (List ℕ)) → JoinInOrder l.message (drop l.definition-index l.self) l.names names → JoinInOrder l.message l.self l.initial.names names
