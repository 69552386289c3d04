-- The options that a configuration gives to a client (RFC 2132; Kea Administrator Reference Manual,
-- chapters DHCPv4 Server Configuration and Client Classification): where they come from, in order
-- of precedence, and which of them a reply sends (RFC 2132 section 9.8; in Kea, always-send).
use Rattle.std.specs.Prelude.{ℕ, ◌-◌, ◌^◌, Bool, false, ◌&&◌, ◌||◌, ◌==◌, List, [], ◌∷◌, ◌++◌, filter, Option, Some, None, option_map, if◌then◌else◌}
use Rattle.std.specs.List.{find, flat_map, list_any, range_with_len}
use Rattle.byteorder.specs.Endian.{big_bytes}
use Rattle.kd_classes.specs.declared.definition.ClassDef.{ClassDef}
use Rattle.kd_classes.specs.declared.option_list.OptionData.{OptionData}
use Rattle.kd_config.specs.Address.{prefix_size}
use Rattle.kd_config.specs.Apart.{has}
use Rattle.kd_config.specs.Configuration.{Configuration}
use Rattle.kd_config.specs.Networks.{part_holding}
use Rattle.kd_config.specs.declared.pool.Pool.{Pool}
use Rattle.kd_config.specs.declared.prefix.Prefix.{Prefix}
use Rattle.kd_config.specs.declared.reservation.Reservation.{Reservation}
use Rattle.kd_config.specs.declared.subnet.Subnet.{Subnet}
use Rattle.kd_machine.specs.Parts.{is_held}
use Rattle.kd_options.specs.Message.{Seen}
use Rattle.kd_lease.specs.Kept.{reservation_at}
use Rattle.kd_lease.specs.Client.{wants_option}
use Rattle.kd_lease.specs.Plan.{ReplyOption}

-- the options of a reservation, if there is one
abbrev pub options_reserved : Option Reservation → List OptionData
options_reserved None = []
options_reserved (Some reservation) = reservation.options

-- the options of the reservation that counts for the reply to a message with an address
abbrev pub reserved_options : Configuration → List (List ℕ) → Seen → Subnet → ℕ → List OptionData
reserved_options config names m s a = options_reserved (reservation_at config names m s a)

-- the options of a pool, if there is one
abbrev pub options_in : Option Pool → List OptionData
options_in None = []
options_in (Some pool) = pool.options

-- the options of the first of the pools that contains the address
abbrev pub options_of_pool : List Pool → ℕ → List OptionData
options_of_pool pools address = options_in (find (λ pool. has pool.range address) pools)

-- the options of the classes whose names are held, in order
abbrev pub class_options : List ClassDef → List (List ℕ) → List OptionData
class_options classes names =
    flat_map (λ class. class.options) (filter (λ class. is_held class.name names) classes)

-- the mask of a prefix (RFC 2132 section 3.3): as many ones as its length, then zeros, in network
-- order
abbrev pub prefix_mask : Prefix → List ℕ
prefix_mask prefix = big_bytes 4 (2 ^ 32 - prefix_size prefix.length)

-- the mask as an option
abbrev pub mask_option : Prefix → OptionData
mask_option prefix = record { code = 1; value = prefix_mask prefix; always = false }

-- the options given at an address of a subnet to the client of a message, which is in the classes
-- with these names; for each code, the first in this list takes precedence. Those of a subnet are
-- those of the part of its shared network that has the address
unfoldable pub given : Configuration → Subnet → List (List ℕ) → Seen → ℕ → List OptionData
given config subnet names m address =
    reserved_options config names m subnet address ++ options_of_pool subnet.pools address
    ++ (part_holding config.subnets subnet address).options
    ++ (part_holding config.subnets subnet address).shared
    ++ class_options config.classes names ++ config.options
    ++ mask_option (part_holding config.subnets subnet address).prefix ∷ []

-- the value of a code: that of the first option that has it
abbrev pub value_in : ℕ → List OptionData → Option (List ℕ)
value_in code options =
    option_map (λ option. option.value) (find (λ option. option.code == code) options)

-- an option that is sent if there is room
abbrev pub optional : ℕ → List ℕ → List ReplyOption
optional code value = record { code = code; value = value; obligatory = false } ∷ []

-- one of these options has the code, and is sent to clients that do not ask for it
abbrev pub always_has : ℕ → List OptionData → Bool
always_has code options = list_any (λ option. option.always && option.code == code) options

-- a configured option: it is sent if it has a value, and it is to be sent
abbrev pub configured : Bool → ℕ → Option (List ℕ) → List ReplyOption
configured sent code None = []
configured sent code (Some value) = if sent then optional code value else []

-- the configured option with a code, for the reply to a message: it is sent if the client asks for
-- it, or if any of the options with the code is sent to all
abbrev pub configured_at : Seen → List OptionData → ℕ → List ReplyOption
configured_at m options code =
    configured (wants_option code m || always_has code options) code (value_in code options)

-- the configured options of the reply to a message, in ascending order of code
unfoldable pub configured_options : Seen → List OptionData → List ReplyOption
configured_options m options = flat_map (configured_at m options) (range_with_len 1 254)
