-- The fields of a reply by which its client boots (RFC 2131 section 2, figure 1, and section 4.3.1,
-- table 3; Kea Administrator Reference Manual, section Fixed Fields in DHCPv4): where their values come
-- from, in order of precedence. Options have another order (`Given.antt`).
use Rattle.std.specs.Prelude.{ℕ, List, [], ◌∷◌, ◌++◌, filter, map, replicate, Option, Some, None, unwrap_or}
use Rattle.kd_classes.specs.Boot.{first_boot, no_boot}
use Rattle.kd_classes.specs.declared.boot.Boot.{Boot}
use Rattle.kd_classes.specs.declared.definition.ClassDef.{ClassDef}
use Rattle.kd_config.specs.Configuration.{Configuration}
use Rattle.kd_config.specs.Networks.{part_holding}
use Rattle.kd_config.specs.declared.reservation.Reservation.{Reservation}
use Rattle.kd_config.specs.declared.subnet.Subnet.{Subnet}
use Rattle.kd_machine.specs.Parts.{is_held}
use Rattle.kd_options.specs.Message.{Seen}
use Rattle.kd_lease.specs.Choice.{Asking}
use Rattle.kd_lease.specs.Kept.{reservation_at}
use Rattle.kd_lease.specs.Rules.{serving_subnet}
use Rattle.kd_lease.specs.declared.booting.BootFields.{BootFields}
use Rattle.kd_lease.specs.declared.plan.PlanKind.{PlanKind}
use Rattle.kd_lease.specs.declared.plan.PlanKind.TheVariants as kinds

-- what a reservation gives to the fields, if there is one
abbrev pub boots_reserved : Option Reservation → List Boot
boots_reserved None = []
boots_reserved (Some reservation) = reservation.boots

-- what the reservation gives that counts for the reply to a message with an address
abbrev pub reserved_boots : Configuration → List (List ℕ) → Seen → Subnet → ℕ → List Boot
reserved_boots config names m s a = boots_reserved (reservation_at config names m s a)

-- what the classes give whose names are held, in order
abbrev pub class_boots : List ClassDef → List (List ℕ) → List Boot
class_boots classes names =
    map (λ class. class.boot) (filter (λ class. is_held class.name names) classes)

-- what is given to the fields at an address of a subnet to the client of a message, which is in the
-- classes with these names; for each field, the first value in this list counts. That of the subnet
-- is the one of the part of its shared network that has the address
unfoldable pub boots_given : Configuration → Subnet → List (List ℕ) → Seen → ℕ → List Boot
boots_given config subnet names m address =
    reserved_boots config names m subnet address ++ class_boots config.classes names
    ++ (part_holding config.subnets subnet address).boot ∷ []

-- the fields of a reply with these values; a field without one has zeros
abbrev pub fields_of : Boot → BootFields
fields_of boot =
    record {
      siaddr = unwrap_or boot.next_server 0;
      sname = unwrap_or boot.server_name (replicate 64 0);
      file = unwrap_or boot.file_name (replicate 128 0);
    }

-- the fields at an address of a subnet, if there is a subnet
abbrev pub fields_in : Asking → Option Subnet → ℕ → BootFields
fields_in q None address = fields_of no_boot
fields_in q (Some s) address =
    fields_of (first_boot (boots_given q.config s q.names q.message address))

-- the fields of a reply: those at the address that it assigns, or at the address that the client has;
-- a NAK has zeros
unfoldable pub reply_fields : Asking → PlanKind → ℕ → BootFields
reply_fields q kinds.Offer yiaddr = fields_in q (serving_subnet q) yiaddr
reply_fields q kinds.Ack yiaddr = fields_in q (serving_subnet q) yiaddr
reply_fields q kinds.InformAck yiaddr = fields_in q (serving_subnet q) q.message.header.ciaddr
reply_fields q kinds.Nak yiaddr = fields_of no_boot
