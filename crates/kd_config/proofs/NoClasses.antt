-- An empty list of class definitions is in order.
use Rattle.std.proofs.Common.{ℕ, ◌<◌, [], arith}
use Rattle.kd_classes.specs.Order.{AreInOrder}

below : (i : ℕ) → i < 0 → ⊥
below i small = omega arith

pub none_in_order : AreInOrder []
none_in_order = record { few = omega arith; each = λ i def small same. absurd (below i small) }
