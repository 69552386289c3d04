-- Names of classes in a configuration of Kea's: those that a reservation gives to its client (Kea
-- Administrator Reference Manual, section Reserving Client Classes in DHCPv4), and the two that Kea has
-- of its own for what only the reservations decide (section Built-in Client Classes).
use Rattle.std.specs.Prelude.{ℕ, ◌||◌, Bool, bytes_eq, List, codes, Option}
use Rattle.serde_json.specs.Data.{Data}
use Rattle.serde_json.specs.Find.{get}
use Rattle.kd_fields.specs.Values.{class_name_in}
use Rattle.kd_fields.specs.Lists.{list_of}

-- the class of all clients with a reservation, or that of all others
abbrev pub is_of_clients : List ℕ → Bool
is_of_clients name = bytes_eq name (codes "KNOWN") || bytes_eq name (codes "UNKNOWN")

-- the classes that a reservation gives: at most 64, each with a name
abbrev pub classes_given : Data → Option (List (List ℕ))
classes_given d = list_of 64 class_name_in (get (codes "client-classes") d)
