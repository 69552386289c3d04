-- The fields of a reply by which its client boots (RFC 2131 section 2, figure 1; Kea Administrator
-- Reference Manual, section Fixed Fields in DHCPv4): where the value of each comes from, and its
-- line.
use Rattle.std.specs.Prelude.{◌≡◌, ℕ, ◌+◌, ◌<◌, Bool, true, false, not, ◌==◌, List, [], ◌∷◌, ◌++◌, codes, drop, filter, length, take, Option, None, Some, is_some}
use Rattle.std.specs.List.{list_any}
use Rattle.kd_classes.specs.declared.boot.Boot.{Boot}
use Rattle.kd_classes.specs.declared.definition.ClassDef.{ClassDef}
use Rattle.kd_config.specs.Configuration.{Configuration}
use Rattle.kd_config.specs.Networks.{part_holding}
use Rattle.kd_config.specs.declared.subnet.Subnet.{Subnet}
use Rattle.kd_lease.specs.Booting.{class_boots, reserved_boots}
use Rattle.kd_options.specs.Message.{Seen}
use Rattle.kd_text.specs.Text.{address_text}
use Rattle.kd_wire.specs.declared.header.Header.{Header}
use Rattle.kd_explain.specs.Words.{name_text}
use Rattle.kd_explain.specs.declared.boot_origins.BootField.{BootField}
use Rattle.kd_explain.specs.declared.boot_origins.BootField.TheVariants as fields
use Rattle.kd_explain.specs.declared.origins.Origin.{Origin}
use Rattle.kd_explain.specs.declared.origins.Origin.TheVariants as origins

-- ---- where a value comes from

-- a value is given to a field
abbrev pub gives_field : BootField → Boot → Bool
gives_field fields.Siaddr boot = is_some boot.next_server
gives_field fields.Sname boot = is_some boot.server_name
gives_field fields.File boot = is_some boot.file_name

-- one of these gives a value to a field
abbrev pub one_gives : BootField → List Boot → Bool
one_gives field boots = list_any (gives_field field) boots

-- what the class at an index gives, to a message with these class names
abbrev pub boots_of_class : List ClassDef → List (List ℕ) → ℕ → List Boot
boots_of_class classes names i = class_boots (take 1 (drop i classes)) names

-- what an origin gives at an address of a subnet, to a message with these class names; in a
-- network, the subnet is the one in it that has the address
abbrev pub boots_from : Configuration → Subnet → List (List ℕ) → Seen → ℕ → Origin → List Boot
boots_from config s names m a origins.Reservation = reserved_boots config names m s a
boots_from config s names m a (origins.Class i) = boots_of_class config.classes names i
boots_from config s names m a origins.Subnet = (part_holding config.subnets s a).boot ∷ []
boots_from config s names m a other = []

-- the position of an origin in the order of precedence, if there are `count` classes
abbrev pub boot_place : ℕ → Origin → ℕ
boot_place count origins.Reservation = 0
boot_place count (origins.Class i) = 1 + i
boot_place count origins.Subnet = 1 + count
boot_place count other = 2 + count

-- an origin gives a value to the field, and no origin before it does; or none does
abbrev pub IsBootOrigin : Configuration → Subnet → List (List ℕ) → Seen → ℕ → BootField
    → Option Origin → Type 0
IsBootOrigin config s names m a field None =
    (other : Origin) → one_gives field (boots_from config s names m a other) ≡ false
IsBootOrigin config s names m a field (Some origin) =
    (one_gives field (boots_from config s names m a origin) ≡ true)
    × ((other : Origin)
    → boot_place (length config.classes) other < boot_place (length config.classes) origin
    → one_gives field (boots_from config s names m a other) ≡ false)

-- ---- its line

-- the text in a field that zeros fill up: its bytes but the zeros
abbrev pub field_text : List ℕ → List ℕ
field_text bytes = name_text (filter (λ b. not (b == 0)) bytes)

-- the value of a field in a header, after its name
abbrev pub field_words : BootField → Header → List ℕ
field_words fields.Siaddr h = codes "siaddr " ++ address_text h.siaddr
field_words fields.Sname h = codes "sname " ++ field_text h.sname
field_words fields.File h = codes "file " ++ field_text h.file

-- the line of a field in a header, by the words for where its value comes from
abbrev pub field_line : BootField → Header → List ℕ → List ℕ
field_line field h source = field_words field h ++ codes " " ++ source ++ codes "\n"
