-- Clients that are known by their reservations in a configuration of Kea's (Kea Administrator Reference
-- Manual, sections Built-in Client Classes and Reserving Client Classes in DHCPv4): a reservation gives
-- classes, or a class, a subnet or a pool asks whether a client has one. Then KNOWN and UNKNOWN are classes
-- without a test, before those of the file.
use Rattle.std.specs.Prelude.{◌==◌, ℕ, ◌||◌, Bool, true, false, not, nat_eq, codes, length, List, [], ◌∷◌, None}
use Rattle.std.specs.List.{list_any, starts_with}
use Rattle.kd_classes.specs.Boot.{no_boot}
use Rattle.kd_config.specs.declared.pool.Pool.{Pool}
use Rattle.kd_config.specs.declared.reservation.Reservation.{Reservation}
use Rattle.kd_config.specs.declared.subnet.Subnet.{Subnet}
use Rattle.kd_json.specs.declared.objects.class.ClassEntry.{ClassEntry}
use Rattle.kd_json.specs.declared.objects.class.TestSource.{TestSource}
use Rattle.kd_json.specs.declared.objects.class.TestSource.TheVariants as sources
use Rattle.kd_keys.specs.ClassNames.{is_of_clients}

-- a text has a word somewhere in it
abbrev pub has_word : List ℕ → List ℕ → Bool
has_word word [] = false
has_word word (b ∷ bytes) = starts_with nat_eq (b ∷ bytes) word || has_word word bytes

-- a test may ask whether a client has a reservation: KNOWN is somewhere in its text, as it is in UNKNOWN
abbrev pub is_test_of_clients : TestSource → Bool
is_test_of_clients (sources.Expression text) = has_word (codes "KNOWN") text
is_test_of_clients other = false

-- a class may ask it
abbrev pub is_class_of_clients : ClassEntry → Bool
is_class_of_clients class = is_test_of_clients class.source

-- a pool asks it
abbrev pub is_pool_of_clients : Pool → Bool
is_pool_of_clients pool = list_any is_of_clients pool.classes

-- a reservation gives classes
abbrev pub gives_classes : Reservation → Bool
gives_classes reservation = not (length reservation.joins == 0)

-- a subnet asks whether a client has a reservation, or has a reservation that gives classes
abbrev pub is_subnet_of_clients : Subnet → Bool
is_subnet_of_clients s =
    list_any is_of_clients s.classes
    || (list_any is_pool_of_clients s.pools || list_any gives_classes s.reservations)

-- a configuration with these classes and subnets knows its clients by their reservations
abbrev pub are_of_clients : List ClassEntry → List Subnet → Bool
are_of_clients classes subnets =
    list_any is_class_of_clients classes || list_any is_subnet_of_clients subnets

-- a class without a test
abbrev pub untested : List ℕ → ClassEntry
untested name = record { name = name; source = sources.Nothing; options = []; boot = no_boot; lifetime = None }

-- the classes of a configuration, which may know its clients
abbrev pub classes_with : Bool → List ClassEntry → List ClassEntry
classes_with false classes = classes
classes_with true classes = untested (codes "KNOWN") ∷ untested (codes "UNKNOWN") ∷ classes
