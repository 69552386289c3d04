-- The boot fields of a reply: they have their sizes, and are zeros where the configuration gives
-- nothing to them.
use Rattle.std.proofs.Common.{◌≡◌, ℕ, zero, suc, ◌<◌, ◌^◌, ◌==◌, Bool, true, false, List, [], ◌∷◌, ◌++◌, Option, None, Some, refl, sym, ap, subst, ◌∙◌, arith, filter, if◌then◌else◌, map}
use Rattle.std.specs.Prelude.{IfSome, replicate, unwrap_or}
use Rattle.std.specs.List.{AllByRecursion}
use Rattle.std.specs.Option.{option_or}
use Rattle.std.proofs.lemmas.List.{length-replicate}
use Rattle.kd_classes.specs.Boot.{boot_or, first_boot, no_boot}
use Rattle.kd_classes.specs.declared.boot.Boot.{Boot}
use Rattle.kd_classes.specs.declared.definition.ClassDef.{ClassDef}
use Rattle.kd_config.specs.Configuration.{Configuration}
use Rattle.kd_config.specs.Networks.{network_of, part_holding, reservation_for, reservations_within}
use Rattle.kd_config.specs.Sound.{IsBoot, IsClass, IsSound}
use Rattle.kd_config.specs.declared.reservation.Reservation.{Reservation}
use Rattle.kd_config.specs.declared.subnet.Subnet.{Subnet}
use Rattle.kd_lease.specs.Kept.{reservation_at}
use Rattle.kd_lease.specs.Booting.{boots_given, boots_reserved, class_boots, fields_in, fields_of, reply_fields}
use Rattle.kd_lease.specs.Choice.{Asking}
use Rattle.kd_lease.specs.Rules.{serving_subnet}
use Rattle.kd_lease.specs.declared.booting.BootFields.{BootFields}
use Rattle.kd_lease.specs.declared.plan.PlanKind.{PlanKind}
use Rattle.kd_lease.specs.declared.plan.PlanKind.TheVariants as kinds
use Rattle.kd_machine.specs.Parts.{is_held}
use Rattle.kd_options.specs.Laws.{IsField}
use Rattle.kd_options.specs.Message.{AreBytes, Seen}
use Rattle.kd_laws.proofs.Homes.{Serves, ServesClient, all_serve, part_serves, serving_serves}
use Rattle.kd_lease.proofs.Served.{at_part, at_serving, each-append, flat-each, map-each}
use Rattle.kd_laws.proofs.Hosts.{counting_each}
use Rattle.kd_laws.specs.Unbooted.{BootFieldsAreZero, GivesNoBoot, IsUnbooted}

-- ---- sizes

-- boot fields have their sizes
pub record AreFields (fields : BootFields) : Type 0 where
  pub siaddr : fields.siaddr < 2 ^ 32
  pub sname : IsField 64 fields.sname
  pub file : IsField 128 fields.file

-- zeros are bytes
zeros_are : (n : ℕ) → AreBytes (replicate n 0)
zeros_are zero = tt
zeros_are (suc n) = (omega arith, zeros_are n)

-- a field of zeros
zero_field : (n : ℕ) → IsField n (replicate n 0)
zero_field n = record { size = length-replicate n 0; bytes_are = zeros_are n }

-- what is given, or zeros
or_zeros : (n : ℕ) (given : Option (List ℕ)) → IfSome given (IsField n) → IsField n (unwrap_or given (replicate n 0))
or_zeros n None is = zero_field n
or_zeros n (Some bytes) is = is

or_zero : (given : Option ℕ) → IfSome given (λ address. address < 2 ^ 32) → unwrap_or given 0 < 2 ^ 32
or_zero None is = omega arith
or_zero (Some address) is = is

sized_of : (boot : Boot) → IsBoot boot → AreFields (fields_of boot)
sized_of boot is = record {
  siaddr = or_zero boot.next_server is.next_server;
  sname = or_zeros 64 boot.server_name is.server_name;
  file = or_zeros 128 boot.file_name is.file_name;
}

nothing_sound : IsBoot no_boot
nothing_sound = record { next_server = tt; server_name = tt; file_name = tt }

or_holds : {A : Type 0} (P : A → Type 0) (x y : Option A) → IfSome x P → IfSome y P → IfSome (option_or x y) P
or_holds P None y left right = right
or_holds P (Some x) y left right = left

first_sound : (boots : List Boot) → AllByRecursion IsBoot boots → IsBoot (first_boot boots)
first_sound [] each = nothing_sound
first_sound (boot ∷ boots) each =
    let others = first_sound boots each.1 in
    record {
      next_server = or_holds (λ address. address < 2 ^ 32) boot.next_server (first_boot boots).next_server each.0.next_server others.next_server;
      server_name = or_holds (IsField 64) boot.server_name (first_boot boots).server_name each.0.server_name others.server_name;
      file_name = or_holds (IsField 128) boot.file_name (first_boot boots).file_name each.0.file_name others.file_name;
    }

of_reservation : (found : Option Reservation) → IfSome found ServesClient → AllByRecursion IsBoot (boots_reserved found)
of_reservation None is = tt
of_reservation (Some reservation) is = is.boots

-- what holds of what each class gives holds of what those give that are held
of_classes : (P : Boot → Type 0) (classes : List ClassDef) (names : List (List ℕ)) → AllByRecursion (λ class. P class.boot) classes → AllByRecursion P (class_boots classes names)
of_classes P [] names each = tt
of_classes P (class ∷ classes) names each = by (is_held class.name names) (of_classes P classes names each.1) where
  by : (b : Bool) → AllByRecursion P (class_boots classes names)
      → AllByRecursion P (map (λ class. class.boot) (if b then class ∷ filter (λ class. is_held class.name names) classes else filter (λ class. is_held class.name names) classes))
  by true rest = (each.0, rest)
  by false rest = rest

classes_sound : (classes : List ClassDef) → AllByRecursion IsClass classes → AllByRecursion (λ class. IsBoot class.boot) classes
classes_sound [] each = tt
classes_sound (class ∷ classes) each = (each.0.boot, classes_sound classes each.1)

given_sound : (config : Configuration) (s : Subnet) (names : List (List ℕ)) (m : Seen) (address : ℕ) → IsSound config → Serves s → AllByRecursion IsBoot (boots_given config s names m address)
unfolding boots_given
given_sound config s names m address sound is =
    let part = part_holding config.subnets s address in
    let there = part_serves config.subnets (all_serve config.subnets sound.subnets.together sound.subnets.each) s address is in
    let host = reservation_at config names m s address in
    let reserved = of_reservation host (counting_each ServesClient names m s is.reservations config address) in
    let held = of_classes IsBoot config.classes names (classes_sound config.classes sound.classes.each) in
    each-append IsBoot (boots_reserved host ++ class_boots config.classes names) (part.boot ∷ [])
    (each-append IsBoot (boots_reserved host) (class_boots config.classes names) reserved held)
    (there.boot, tt)

in_sound : (q : Asking) → IsSound q.config → (s : Option Subnet) → IfSome s Serves → (address : ℕ) → AreFields (fields_in q s address)
in_sound q sound None is address = sized_of no_boot nothing_sound
in_sound q sound (Some s) is address =
    sized_of (first_boot (boots_given q.config s q.names q.message address)) (first_sound (boots_given q.config s q.names q.message address) (given_sound q.config s q.names q.message address sound is))

-- the boot fields of a reply have their sizes
pub fields_sized : (q : Asking) → IsSound q.config → (kind : PlanKind) (yiaddr : ℕ) → AreFields (reply_fields q kind yiaddr)
unfolding reply_fields
fields_sized q sound kinds.Offer yiaddr = in_sound q sound (serving_subnet q) (serving_serves q sound) yiaddr
fields_sized q sound kinds.Ack yiaddr = in_sound q sound (serving_subnet q) (serving_serves q sound) yiaddr
fields_sized q sound kinds.InformAck yiaddr = in_sound q sound (serving_subnet q) (serving_serves q sound) q.message.header.ciaddr
fields_sized q sound kinds.Nak yiaddr = sized_of no_boot nothing_sound

-- ---- zeros

-- the reservations of a network give nothing either
unbooted_within : (n : ℕ) (s : Subnet) → IsUnbooted s → AllByRecursion (λ reservation. reservation.boots ≡ []) (reservations_within n s)
unbooted_within n s is = by (s.network == n) where
  by : (b : Bool) → AllByRecursion (λ reservation. reservation.boots ≡ []) (if b then map (reservation_for s.classes) s.reservations else [])
  by true = map-each (λ reservation. reservation.boots ≡ []) (λ reservation. reservation.boots ≡ []) (reservation_for s.classes) (λ reservation it. it) s.reservations is.reserved
  by false = tt

unbooted_network : (subnets : List Subnet) → AllByRecursion IsUnbooted subnets → (n : ℕ) → IsUnbooted (network_of subnets n)
unfolding network_of
unbooted_network subnets each n = record {
  own = refl;
  reserved = flat-each IsUnbooted (λ reservation. reservation.boots ≡ []) (reservations_within n) (unbooted_within n) subnets each;
}

-- what gives nothing
abbrev IsNothing : Boot → Type 0
IsNothing boot = boot ≡ no_boot

none_reserved : (found : Option Reservation) → IfSome found (λ reservation. reservation.boots ≡ []) → AllByRecursion IsNothing (boots_reserved found)
none_reserved None is = tt
none_reserved (Some reservation) is = subst (λ (boots : List Boot). AllByRecursion IsNothing boots) (sym is) tt

all_nothing : (boots : List Boot) → AllByRecursion IsNothing boots → first_boot boots ≡ no_boot
all_nothing [] each = refl
all_nothing (boot ∷ boots) each = ap (λ b. boot_or b (first_boot boots)) each.0 ∙ all_nothing boots each.1

given_nothing : (config : Configuration) (s : Subnet) (names : List (List ℕ)) (m : Seen) (address : ℕ) → GivesNoBoot config → IsUnbooted s → AllByRecursion IsNothing (boots_given config s names m address)
unfolding boots_given
given_nothing config s names m address none is =
    let part = part_holding config.subnets s address in
    let there = at_part IsUnbooted unbooted_network config.subnets none.subnets s address is in
    let host = reservation_at config names m s address in
    let reserved = none_reserved host (counting_each (λ reservation. reservation.boots ≡ []) names m s is.reserved config address) in
    each-append IsNothing (boots_reserved host ++ class_boots config.classes names) (part.boot ∷ [])
    (each-append IsNothing (boots_reserved host) (class_boots config.classes names) reserved (of_classes IsNothing config.classes names none.classes))
    (there.own, tt)

in_nothing : (q : Asking) → GivesNoBoot q.config → (s : Option Subnet) → IfSome s IsUnbooted → (address : ℕ) → fields_in q s address ≡ fields_of no_boot
in_nothing q none None is address = refl
in_nothing q none (Some s) is address = ap fields_of (all_nothing (boots_given q.config s q.names q.message address) (given_nothing q.config s q.names q.message address none is))

-- where nothing is given, the boot fields of every reply are zeros
pub fields_zero : BootFieldsAreZero
unfolding reply_fields
fields_zero q kinds.Offer yiaddr none = in_nothing q none (serving_subnet q) (at_serving IsUnbooted unbooted_network q none.subnets) yiaddr
fields_zero q kinds.Ack yiaddr none = in_nothing q none (serving_subnet q) (at_serving IsUnbooted unbooted_network q none.subnets) yiaddr
fields_zero q kinds.InformAck yiaddr none = in_nothing q none (serving_subnet q) (at_serving IsUnbooted unbooted_network q none.subnets) q.message.header.ciaddr
fields_zero q kinds.Nak yiaddr none = refl
