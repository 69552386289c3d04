-- What a message changes (RFC 2131 section 4.3): the row that is set in the table of leases, if
-- any, and what the message gets. The rules determine both; a reply whose mandatory options do not
-- fit is not sent, and then no row is set (our choice).
use Rattle.std.specs.Prelude.{◌≡◌, ℕ, Bool, true, false, List, Option, Some, None, codes}
use Rattle.kd_config.specs.Configuration.{Configuration}
use Rattle.kd_event.specs.declared.reason.Reason.{Reason}
use Rattle.kd_event.specs.declared.reason.Reason.TheVariants as reasons
use Rattle.kd_machine.specs.Parts.{is_held}
use Rattle.kd_options.specs.Message.{Seen}
use Rattle.kd_rows.specs.Table.{with_row}
use Rattle.kd_rows.specs.declared.row.Row.{Row}
use Rattle.kd_lease.specs.Choice.{Asking}
use Rattle.kd_lease.specs.Client.{identity_under, server_message, reply_room}
use Rattle.kd_lease.specs.Membership.{InClasses}
use Rattle.kd_lease.specs.Plan.{Outcome}
use Rattle.kd_lease.specs.Plan.Outcome.{planned, quiet}
use Rattle.kd_lease.specs.ReplyOf.{within_room}
use Rattle.kd_lease.specs.ReplyOptions.{reply_content}
use Rattle.kd_lease.specs.Rules.{Does}

-- a reply, if there is one, has its boot fields and its options
abbrev pub HasReplyContent : Asking → Outcome → Type 0
HasReplyContent q (planned kind yiaddr content) = content ≡ reply_content q kind yiaddr
HasReplyContent q (quiet reason) = Unit {0}

-- the mandatory options fit, if there is a reply
abbrev pub fits_in : ℕ → Outcome → Bool
fits_in room (planned kind yiaddr content) = within_room room content.options
fits_in room (quiet reason) = true

-- this row is set and this is the result if the reply fits; otherwise no row is set and there is no
-- reply
abbrev pub WhereFits : Bool → Option Row → Outcome → Option Row → Outcome → Type 0
WhereFits true row outcome set got = (set ≡ row) × (got ≡ outcome)
WhereFits false row outcome set got = (set ≡ None) × (got ≡ quiet reasons.ReplyTooLong)

-- what a message does by its rule, and what it gets
pub record AnswersTo (q : Asking) (set : Option Row) (got : Outcome) : Type 0 where
  pub row : Option Row
  pub outcome : Outcome
  pub does : Does q row outcome
  pub content : HasReplyContent q outcome
  pub replies : WhereFits (fits_in (reply_room q.message) outcome) row outcome set got

-- if the test holds, nothing is done and there is no reply, for this reason; else what follows
abbrev pub Unless : Bool → Reason → (Option Row → Outcome → Type 0) → Option Row → Outcome → Type 0
Unless true reason Done set got = (set ≡ None) × (got ≡ quiet reason)
Unless false reason Done set got = Done set got

-- what is done for a client by its identity; nothing if it has none
abbrev pub ForClient : Option (List ℕ) → (List ℕ → Option Row → Outcome → Type 0) → Option Row
    → Outcome → Type 0
ForClient None Done set got = (set ≡ None) × (got ≡ quiet reasons.NoIdentity)
ForClient (Some client) Done set got = Done client set got

-- what the rules are applied to for a client's message over a table
abbrev pub asked_for : Configuration → List Row → List (List ℕ) → Seen → ℕ → List ℕ → Asking
asked_for config rows names m now client =
    record { config = config; rows = rows; names = names; message = m; client = client; now = now }

-- what a message, whose classes have these names, sets and gets: only messages of clients that have
-- an identity are answered, and none that is in the class DROP
abbrev pub Decides : Configuration → List Row → List (List ℕ) → Seen → ℕ → Option Row → Outcome
    → Type 0
Decides config rows names m now set got =
    Unless (server_message m) reasons.NotRequest
    (ForClient (identity_under config m)
    (λ client. Unless (is_held (codes "DROP") names) reasons.DropClass
    (AnswersTo (asked_for config rows names m now client)))) set got

-- the rows after one is set, or after none is
abbrev pub after : List Row → Option Row → List Row
after rows None = rows
after rows (Some row) = with_row row rows

-- a message at a given time changes the table to this one and gets this, by the classes that it is
-- in
pub record Changes (config : Configuration) (old : List Row) (m : Seen) (now : ℕ) (new : List Row)
    (outcome : Outcome) : Type 0 where
  pub names : List (List ℕ)
  pub held : InClasses config old m now names
  pub set : Option Row
  pub decides : Decides config old names m now set outcome
  pub becomes : new ≡ after old set
