-- The classes that a message is in (Kea Administrator Reference Manual, sections Built-in Client
-- Classes and Reserving Client Classes in DHCPv4): those whose tests are true, each over the names held
-- before it. Where clients are known by their reservations, the names before any test are also those
-- of the classes that the reservation of the client gives, and KNOWN if it has one, or else UNKNOWN. The
-- reservation is looked for by the classes of a client of which nothing is known.
use Rattle.std.specs.Prelude.{◌≡◌, ℕ, Bool, true, false, List, [], ◌∷◌, codes, Option, Some, None}
use Rattle.std.specs.Option.{option_or}
use Rattle.kd_classes.specs.HeldSet.{HeldSet, JoinInOrder}
use Rattle.kd_config.specs.Configuration.{Configuration}
use Rattle.kd_config.specs.declared.reservation.Reservation.{Reservation}
use Rattle.kd_config.specs.declared.subnet.Subnet.{Subnet}
use Rattle.kd_lease.specs.Client.{identity_under}
use Rattle.kd_lease.specs.Kept.{kept_in, reservation_at}
use Rattle.kd_lease.specs.SubnetOf.{subnet_serving}
use Rattle.kd_machine.specs.Held.{base_names, with_name}
use Rattle.kd_options.specs.Joined.{value_of}
use Rattle.kd_options.specs.Message.{Seen}
use Rattle.kd_rows.specs.declared.row.Row.{Row}

-- the subnet in which a client keeps the lease that it renews, if the message has a client that
-- does
abbrev pub kept_for : Option (List ℕ) → Configuration → List Row → Seen → ℕ → Option Subnet
kept_for None config rows m now = None
kept_for (Some client) config rows m now = kept_in config rows m now client

-- the subnet of a message whose classes have these names: the one in which its client keeps a lease,
-- or else that of its place
abbrev pub subnet_for : Configuration → List Row → List (List ℕ) → Seen → ℕ → Option Subnet
subnet_for config rows names m now =
    option_or (kept_for (identity_under config m) config rows m now) (subnet_serving config names m)

-- the reservation in a subnet that counts for a message whose classes have these names, if there is a
-- subnet
abbrev pub counting_in : Configuration → List (List ℕ) → Seen → Option Subnet → Option Reservation
counting_in config names m None = None
counting_in config names m (Some s) = reservation_at config names m s m.header.ciaddr

-- the names with more of them
abbrev pub with_names : List (List ℕ) → List (List ℕ) → List (List ℕ)
with_names [] held = held
with_names (name ∷ names) held = with_names names (with_name name held)

-- the names with those that the reservation of a client gives, and with whether it has one
abbrev pub with_client : Option Reservation → List (List ℕ) → List (List ℕ)
with_client None held = with_name (codes "UNKNOWN") held
with_client (Some reservation) held = with_name (codes "KNOWN") (with_names reservation.joins held)

-- the names before any test, where clients are known by their reservations (`true`) or are not
abbrev pub StartsBy : Bool → Configuration → List Row → Seen → ℕ → List (List ℕ) → Type 0
StartsBy false config rows m now start = start ≡ base_names (value_of 60 m.options)
StartsBy true config rows m now start =
    (others : List (List ℕ)) × HeldSet m config.classes others
    × (start ≡ with_client (counting_in config others m (subnet_for config rows others m now))
    (base_names (value_of 60 m.options)))

-- the names before any test in a configuration
abbrev pub StartsWith : Configuration → List Row → Seen → ℕ → List (List ℕ) → Type 0
StartsWith config rows m now start =
    StartsBy config.extensions.knows_clients config rows m now start

-- the names of the classes that a message is in at a time, over the rows of the table
pub record InClasses (config : Configuration) (rows : List Row) (m : Seen) (now : ℕ)
    (names : List (List ℕ)) : Type 0 where
  pub start : List (List ℕ)
  pub starts : StartsWith config rows m now start
  pub joined : JoinInOrder m config.classes start names
