-- The steps in which a server with leases answers a datagram. Proofs tie these to the history's one
-- event; no public contract cites them.
use Rattle.std.specs.Prelude.{◌≡◌, ℕ, ◌⊎◌, List, Option, None}
use Rattle.kd_config.specs.Configuration.{Configuration}
use Rattle.kd_event.specs.declared.event.Response.{Response}
use Rattle.kd_event.specs.declared.event.Response.TheVariants as responses
use Rattle.kd_event.specs.declared.ports.Ports.{Ports}
use Rattle.kd_event.specs.declared.reason.Reason.TheVariants as reasons
use Rattle.kd_lease.specs.Change.{Decides}
use Rattle.kd_lease.specs.Destination.{destination_of}
use Rattle.kd_lease.specs.Membership.{InClasses}
use Rattle.kd_lease.specs.Plan.{Outcome}
use Rattle.kd_lease.specs.declared.plan.Plan.{Plan}
use Rattle.kd_options.specs.Message.{Seen, Reads}
use Rattle.kd_options.specs.Reply.{reply_text}
use Rattle.kd_rows.specs.declared.row.Row.{Row}
use Rattle.kd_server.specs.Step.{Responds}

-- a planned reply is sent
abbrev pub IsSent : Ports → Seen → Plan → Response → Type 0
IsSent ports m plan (responses.Quiet reason) = ⊥
IsSent ports m plan (responses.Reply destination text) =
    (destination ≡ destination_of m.header plan.kind plan.yiaddr ports)
    × (text ≡ reply_text plan.reply.header plan.room plan.reply.items)

-- a message sets this row, if any, and this is sent
pub record Turns (config : Configuration) (ports : Ports) (rows : List Row) (now : ℕ) (m : Seen)
    (row : Option Row) (response : Response) : Type 0 where
  pub names : List (List ℕ)
  pub held : InClasses config rows m now names
  pub outcome : Outcome
  pub decides : Decides config rows names m now row outcome
  pub responds : Responds ports m outcome response

-- a datagram reads as a message, which sets this row, if any, and this is sent
pub record TurnsAs (config : Configuration) (ports : Ports) (rows : List Row) (now : ℕ)
    (bytes : List ℕ) (row : Option Row) (response : Response) : Type 0 where
  pub message : Seen
  pub reads : Reads bytes message
  pub turns : Turns config ports rows now message row response

-- a datagram that reads as no message: no row is set, and nothing is sent
pub record IsNoTurn (bytes : List ℕ) (row : Option Row) (response : Response) : Type 0 where
  pub unreadable : (m : Seen) → Reads bytes m → ⊥
  pub quiet : response ≡ responses.Quiet reasons.Unreadable
  pub none : row ≡ None

-- which row a datagram sets, if any, and what is sent
abbrev pub IsTurn : Configuration → Ports → List Row → ℕ → List ℕ → Option Row → Response → Type 0
IsTurn config ports rows now bytes row response =
    IsNoTurn bytes row response ⊎ TurnsAs config ports rows now bytes row response
