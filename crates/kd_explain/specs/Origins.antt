-- Where a configured option comes from (Kea Administrator Reference Manual, chapters DHCPv4 Server
-- Configuration and Client Classification).
use Rattle.std.specs.Prelude.{◌≡◌, ℕ, ◌+◌, ◌<◌, Bool, true, false, ◌==◌, List, [], ◌∷◌, drop, length, take, Option, None, Some}
use Rattle.std.specs.List.{list_any}
use Rattle.kd_classes.specs.declared.definition.ClassDef.{ClassDef}
use Rattle.kd_classes.specs.declared.option_list.OptionData.{OptionData}
use Rattle.kd_config.specs.Configuration.{Configuration}
use Rattle.kd_config.specs.Networks.{part_holding}
use Rattle.kd_config.specs.declared.subnet.Subnet.{Subnet}
use Rattle.kd_lease.specs.Given.{class_options, mask_option, options_of_pool, reserved_options}
use Rattle.kd_options.specs.Message.{Seen}
use Rattle.kd_explain.specs.declared.origins.Origin.{Origin}
use Rattle.kd_explain.specs.declared.origins.Origin.TheVariants as origins

-- options have a code
abbrev pub has_code : ℕ → List OptionData → Bool
has_code code options = list_any (λ option. option.code == code) options

-- the options of the class at an index, for a message with these class names
abbrev pub options_of_class : List ClassDef → List (List ℕ) → ℕ → List OptionData
options_of_class classes names i = class_options (take 1 (drop i classes)) names

-- the options of an origin at an address of a subnet, for a message with these class names; in a
-- network, subnet, network and mask are those of the subnet in it that has the address
abbrev pub options_from : Configuration → Subnet → List (List ℕ) → Seen → ℕ → Origin
    → List OptionData
options_from config s names m a origins.Reservation = reserved_options config names m s a
options_from config s names m a origins.Pool = options_of_pool s.pools a
options_from config s names m a origins.Subnet = (part_holding config.subnets s a).options
options_from config s names m a origins.Network = (part_holding config.subnets s a).shared
options_from config s names m a (origins.Class i) = options_of_class config.classes names i
options_from config s names m a origins.Global = config.options
options_from config s names m a origins.Mask =
    mask_option (part_holding config.subnets s a).prefix ∷ []

-- the position of an origin in the order of precedence, if there are `count` classes
abbrev pub origin_place : ℕ → Origin → ℕ
origin_place count origins.Reservation = 0
origin_place count origins.Pool = 1
origin_place count origins.Subnet = 2
origin_place count origins.Network = 3
origin_place count (origins.Class i) = 4 + i
origin_place count origins.Global = 4 + count
origin_place count origins.Mask = 5 + count

-- an origin has the code, and no origin before it does; or none has it
abbrev pub IsOrigin : Configuration → Subnet → List (List ℕ) → Seen → ℕ → ℕ → Option Origin
    → Type 0
IsOrigin config s names m a code None =
    (other : Origin) → has_code code (options_from config s names m a other) ≡ false
IsOrigin config s names m a code (Some origin) =
    (has_code code (options_from config s names m a origin) ≡ true)
    × ((other : Origin)
    → origin_place (length config.classes) other < origin_place (length config.classes) origin
    → has_code code (options_from config s names m a other) ≡ false)
