-- The explanation of a message: each part as the rules of leases and of classes define it.
use Rattle.std.specs.Prelude.{◌≡◌, ℕ, List, Option, None, Some, option_copied}
use Rattle.std.specs.Option.{option_or}
use Rattle.kd_config.specs.Configuration.{Configuration}
use Rattle.kd_config.specs.declared.reservation.Reservation.{Reservation}
use Rattle.kd_config.specs.declared.subnet.Subnet.{Subnet}
use Rattle.kd_lease.specs.Change.{Decides, asked_for}
use Rattle.kd_lease.specs.Choice.{Asking, client_reservation}
use Rattle.kd_lease.specs.Client.{identity_under}
use Rattle.kd_lease.specs.Decided.{IsAnswerTo, outcome_in}
use Rattle.kd_lease.specs.Membership.{InClasses, StartsWith, kept_for}
use Rattle.kd_lease.specs.Ranks.{AreRanks}
use Rattle.kd_lease.specs.SubnetOf.{subnet_serving}
use Rattle.kd_lease.specs.declared.ranks.Ranks.{Ranks}
use Rattle.kd_options.specs.Message.{Seen}
use Rattle.kd_rows.specs.declared.row.Row.{Row}
use Rattle.kd_explain.specs.Testing.{AreTested}
use Rattle.kd_explain.specs.declared.explaining.Explanation.{Explanation}

-- the reservation for the client of a message in a subnet, if there is a subnet
abbrev pub IsReservedIn : Configuration → List (List ℕ) → Seen → Option Subnet → Option Reservation → Type 0
IsReservedIn config names m None found = found ≡ None
IsReservedIn config names m (Some s) found = found ≡ client_reservation config names m s

-- the first address of each rank in a subnet, if there is a subnet
abbrev pub AreFoundIn : Asking → Option Subnet → Option Ranks → Type 0
AreFoundIn q None found = found ≡ None
AreFoundIn q (Some s) None = ⊥
AreFoundIn q (Some s) (Some ranks) = AreRanks q s ranks

-- the same for a client, if the message has one
abbrev pub AreFoundFor : Option (List ℕ) → (List ℕ → Asking) → Option Subnet → Option Ranks → Type 0
AreFoundFor None asks s found = found ≡ None
AreFoundFor (Some client) asks s found = AreFoundIn (asks client) s found

-- an explanation of a message at a time, over a configuration and rows: its parts are those of the
-- rules
pub record Explains (config : Configuration) (rows : List Row) (m : Seen) (now : ℕ)
    (e : Explanation) : Type 0 where
  pub client : e.client ≡ identity_under config m
  pub start : List (List ℕ)
  pub starts : StartsWith config rows m now start
  pub tested : AreTested m config.classes start e.outcomes.items e.names
  pub held : InClasses config rows m now e.names
  pub kept : option_copied e.kept ≡ kept_for (identity_under config m) config rows m now
  pub subnet : option_copied e.subnet
      ≡ option_or (option_copied e.kept) (subnet_serving config e.names m)
  pub reservation : IsReservedIn config e.names m (option_copied e.subnet)
      (option_copied e.reservation)
  pub ranks : AreFoundFor (identity_under config m) (asked_for config rows e.names m now)
      (option_copied e.subnet) e.ranks
  pub decides : Decides config rows e.names m now e.decision.row (outcome_in e.decision.answer)
  pub answer : IsAnswerTo m e.decision.answer
