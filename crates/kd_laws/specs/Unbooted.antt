-- Where a configuration gives nothing to the fields of a reply by which its client boots, those of
-- every reply are zeros (RFC 2131 section 2, figure 1), as in our own format.
use Rattle.std.specs.Prelude.{◌≡◌, ℕ, []}
use Rattle.std.specs.List.{AllByRecursion}
use Rattle.kd_classes.specs.Boot.{no_boot}
use Rattle.kd_classes.specs.declared.definition.ClassDef.{ClassDef}
use Rattle.kd_config.specs.Configuration.{Configuration}
use Rattle.kd_config.specs.declared.subnet.Subnet.{Subnet}
use Rattle.kd_lease.specs.Booting.{fields_of, reply_fields}
use Rattle.kd_lease.specs.Choice.{Asking}
use Rattle.kd_lease.specs.declared.plan.PlanKind.{PlanKind}

-- a class gives nothing to the boot fields
abbrev pub IsUnbootedClass : ClassDef → Type 0
IsUnbootedClass class = class.boot ≡ no_boot

-- a subnet and its reservations give nothing to them
pub record IsUnbooted (s : Subnet) : Type 0 where
  pub own : s.boot ≡ no_boot
  pub reserved : AllByRecursion (λ reservation. reservation.boots ≡ []) s.reservations

-- a configuration gives nothing to them
pub record GivesNoBoot (c : Configuration) : Type 0 where
  pub classes : AllByRecursion IsUnbootedClass c.classes
  pub subnets : AllByRecursion IsUnbooted c.subnets

-- then those of every reply are zeros
abbrev pub BootFieldsAreZero : Type 0
BootFieldsAreZero =
    (q : Asking) (kind : PlanKind) (yiaddr : ℕ) → GivesNoBoot q.config
    → reply_fields q kind yiaddr ≡ fields_of no_boot
