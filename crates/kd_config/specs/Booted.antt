-- Subnets and classes that give something to the fields by which clients boot, and subnets with
-- reservations. A configuration knows whether it has any.
use Rattle.std.specs.Prelude.{Bool, true, false, not, List, [], ◌∷◌}
use Rattle.kd_classes.specs.Boot.{gives_nothing}
use Rattle.kd_classes.specs.declared.definition.ClassDef.{ClassDef}
use Rattle.kd_config.specs.declared.reservation.Reservation.{Reservation}
use Rattle.kd_config.specs.declared.subnet.Subnet.{Subnet}

-- a subnet gives something to them
abbrev pub gives_boot : Subnet → Bool
gives_boot s = not (gives_nothing s.boot)

-- a class gives something to them
abbrev pub class_gives_boot : ClassDef → Bool
class_gives_boot class = not (gives_nothing class.boot)

-- there is a reservation
abbrev pub is_some_reserved : List Reservation → Bool
is_some_reserved [] = false
is_some_reserved (r ∷ rs) = true

-- a subnet has a reservation
abbrev pub has_reservations : Subnet → Bool
has_reservations s = is_some_reserved s.reservations
