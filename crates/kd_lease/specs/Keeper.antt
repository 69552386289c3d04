-- Helpers of private contracts only: the subnet that has the address of the lease that a client keeps.
use Rattle.std.specs.Prelude.{ℕ, ◌&&◌, List, Option, None, if◌then◌else◌}
use Rattle.std.specs.List.{find}
use Rattle.kd_config.specs.Configuration.{Configuration}
use Rattle.kd_config.specs.declared.subnet.Subnet.{Subnet}
use Rattle.kd_options.specs.Message.{Seen}
use Rattle.kd_rows.specs.declared.row.Row.{Row}
use Rattle.kd_lease.specs.Kept.{has_to_keep, renews_lease}

-- the first subnet that has the address of the lease that the client keeps, if it does
abbrev pub keeper_in : Configuration → List Row → Seen → ℕ → List ℕ → Option Subnet
keeper_in config rows m now client =
    if config.extensions.keeps_leases && renews_lease rows m now client
    then find (has_to_keep m.header.ciaddr) config.subnets else None
