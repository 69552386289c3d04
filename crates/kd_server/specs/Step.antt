-- One event of a history: a datagram at a time, over a table of leases. What a message changes is a
-- parameter.
use Rattle.std.specs.Prelude.{◌≡◌, ℕ, ◌^◌, ◌<◌, max, ◌⊎◌}
use Rattle.kd_options.specs.Message.{Seen, Reads}
use Rattle.kd_lease.specs.Client.{reply_room}
use Rattle.kd_lease.specs.Destination.{destination_of}
use Rattle.kd_lease.specs.Plan.{Outcome}
use Rattle.kd_lease.specs.Plan.Outcome.{planned, quiet}
use Rattle.kd_lease.specs.ReplyOf.{IsReplyText, header_of_reply}
use Rattle.kd_event.specs.declared.ports.Ports.{Ports}
use Rattle.kd_event.specs.declared.event.Event.{Event}
use Rattle.kd_event.specs.declared.event.Handled.{Handled}
use Rattle.kd_event.specs.declared.event.Response.{Response}
use Rattle.kd_event.specs.declared.event.Response.TheVariants as responses
use Rattle.kd_event.specs.declared.reason.Reason.TheVariants as reasons

-- what is sent for a message with this outcome: the text of the planned reply, to its destination;
-- or nothing, for the reason given
abbrev pub Responds : Ports → Seen → Outcome → Response → Type 0
Responds ports m (quiet reason) response = response ≡ responses.Quiet reason
Responds ports m (planned kind yiaddr content) (responses.Quiet reason) = ⊥
Responds ports m (planned kind yiaddr content) (responses.Reply destination text) =
    (destination ≡ destination_of m.header kind yiaddr ports)
    × IsReplyText (header_of_reply kind yiaddr content.fields m.header) (reply_room m)
    content.options text

module _ {Table : Type 0} (latest : Table → ℕ)
    (Changes : Table → Seen → ℕ → Table → Outcome → Type 0) (ports : Ports) where
  -- the datagram reads as no message: nothing is sent, and nothing changes
  pub record IsUnreadable (old : Table) (event : Event) (response : Response)
      (new : Table) : Type 0 where
    pub unreadable : (m : Seen) → Reads event.bytes m → ⊥
    pub quiet : response ≡ responses.Quiet reasons.Unreadable
    pub table : new ≡ old

  -- the datagram reads as a message, which changes the table, and what is sent follows from its
  -- outcome
  pub record IsAnswered (old : Table) (event : Event) (now : ℕ) (response : Response)
      (new : Table) : Type 0 where
    pub message : Seen
    pub reads : Reads event.bytes message
    pub outcome : Outcome
    pub changes : Changes old message now new outcome
    pub responds : Responds ports message outcome response

  -- one event: its time is below 2^40, and a time before the latest change counts as that of the
  -- change
  pub record IsStep (old : Table) (event : Event) (handled : Handled) (new : Table) : Type 0 where
    pub early : event.moment < 2 ^ 40
    pub now : handled.now ≡ max event.moment (latest old)
    pub done : IsUnreadable old event handled.response new
        ⊎ IsAnswered old event handled.now handled.response new
