-- Helpers of private contracts only: the subnet that has the address of a message's client, of the network
-- in which the message is served.
use Rattle.std.specs.Prelude.{ℕ, Bool, false, ◌==◌, Option, Some, None, if◌then◌else◌}
use Rattle.kd_config.specs.Address.{has_address}
use Rattle.kd_config.specs.Configuration.{Configuration}
use Rattle.kd_config.specs.Networks.{part_holding}
use Rattle.kd_config.specs.declared.subnet.Subnet.{Subnet}

-- the part of a subnet, if there is one, that has the address that a client says it has, if it says one
abbrev pub part_in : Configuration → Option Subnet → ℕ → Option Subnet
part_in config None ciaddr = None
part_in config (Some s) ciaddr =
    if ciaddr == 0 then None else Some (part_holding config.subnets s ciaddr)

-- that part, if it was found for this address
abbrev pub part_known : Configuration → Option Subnet → ℕ → ℕ → Option Subnet
part_known config s ciaddr a = if ciaddr == a then part_in config s ciaddr else None

-- a part, if there is one, has an address in its prefix
abbrev pub part_has : Option Subnet → ℕ → Bool
part_has None a = false
part_has (Some s) a = has_address s.prefix a
