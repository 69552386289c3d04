-- Helpers of private contracts only: what follows for a message whose client keeps its lease.
use Rattle.std.specs.Prelude.{ℕ, Bool, false, not, ◌&&◌, ◌==◌, Option, Some, None, is_some, if◌then◌else◌}
use Rattle.kd_config.specs.Networks.{covers}
use Rattle.kd_config.specs.declared.subnet.Subnet.{Subnet}
use Rattle.kd_lease.specs.Choice.{Asking, contained, reserved_anywhere}
use Rattle.kd_lease.specs.Keeper.{keeper_in}
use Rattle.kd_lease.specs.Rules.{client_has, passes_in, serving_subnet}

-- the subnet that has the address of the lease that the client of a question keeps
abbrev pub keeper : Asking → Option Subnet
keeper q = keeper_in q.config q.rows q.message q.now q.client

-- the client keeps its lease of this address
abbrev pub keeps_it : Asking → ℕ → Bool
keeps_it q a = is_some (keeper q) && q.message.header.ciaddr == a

-- the client keeps its lease of this address, which is in a pool of that subnet and not reserved
abbrev pub keeps_pooled : Asking → Option Subnet → ℕ → Bool
keeps_pooled q None a = false
keeps_pooled q (Some s) a =
    q.message.header.ciaddr == a && (contained s a && not (reserved_anywhere q.config a))

-- that subnet, if there is one and a pool of it contains this address
abbrev pub pooled_keeper : Option Subnet → ℕ → Option Subnet
pooled_keeper None a = None
pooled_keeper (Some s) a = if contained s a then Some s else None

-- the client has a row at an address of the subnet that serves the message, or of its network
abbrev pub is_record_here : Asking → ℕ → Bool
is_record_here q a =
    client_has q a && passes_in (covers q.config.subnets) (serving_subnet q) (Some a)
