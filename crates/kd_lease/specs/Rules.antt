-- What each message of a client does (RFC 2131 section 4.3): which row of the table is set, if any,
-- and what the message gets: the kind of its reply and the address that the reply assigns, or the
-- reason why there is none. The options of a reply are not defined here. The rows, their states and
-- the times for which an offer and a declined address are held are our own.
use Rattle.std.specs.Prelude.{◌≡◌, ℕ, ◌+◌, Bool, true, false, not, ◌&&◌, ◌||◌, ◌==◌, List, [], ◌∷◌, Option, Some, None, IsSomeAnd, is_some, option_map, if◌then◌else◌}
use Rattle.std.specs.List.{find, list_any}
use Rattle.std.specs.Option.{option_or}
use Rattle.kd_config.specs.Configuration.{Configuration}
use Rattle.kd_config.specs.Networks.{covers}
use Rattle.kd_config.specs.declared.subnet.Subnet.{Subnet}
use Rattle.kd_config.specs.declared.times.Times.{Times}
use Rattle.kd_event.specs.declared.reason.Reason.{Reason}
use Rattle.kd_event.specs.declared.reason.Reason.TheVariants as reasons
use Rattle.kd_options.specs.Kind.{type_number}
use Rattle.kd_options.specs.Message.{Seen}
use Rattle.kd_options.specs.declared.kind.MessageType.{MessageType}
use Rattle.kd_options.specs.declared.kind.MessageType.TheVariants as types
use Rattle.kd_rows.specs.Row.{IsInRange}
use Rattle.kd_rows.specs.Table.{belongs_to, row_at}
use Rattle.kd_rows.specs.declared.row.Row.{Row}
use Rattle.kd_rows.specs.declared.row.State.{State}
use Rattle.kd_rows.specs.declared.row.State.TheVariants as states
use Rattle.kd_lease.specs.Choice.{Asking, Choice, NoChoice, address_reserved, contained, fitting_for, free_for, has_such, held_row, live_row, reserved_anywhere, set_later}
use Rattle.kd_lease.specs.Client.{kind_of, named_server, requested_address}
use Rattle.kd_lease.specs.Kept.{ciaddr_in, is_leased_in, kept_in, passes, unseen_reservation}
use Rattle.kd_lease.specs.Plan.{Outcome}
use Rattle.kd_lease.specs.Plan.Outcome.{planned, quiet}
use Rattle.kd_lease.specs.Server.{names_another}
use Rattle.kd_lease.specs.SubnetOf.{subnet_serving}
use Rattle.kd_lease.specs.Times.{times_in_subnet}
use Rattle.kd_lease.specs.declared.plan.PlanKind.{PlanKind}
use Rattle.kd_lease.specs.declared.plan.PlanKind.TheVariants as kinds
use Rattle.kd_lease.specs.declared.question.Question.{Question}
use Rattle.kd_lease.specs.declared.rule.Check.{Check}
use Rattle.kd_lease.specs.declared.rule.Check.TheVariants as checks
use Rattle.kd_lease.specs.declared.rule.Ending.{Ending}
use Rattle.kd_lease.specs.declared.rule.Ending.TheVariants as ends
use Rattle.kd_lease.specs.declared.rule.Rule.{Rule}
use Rattle.kd_lease.specs.declared.rule.Rule.TheVariants as rules

-- what a question of the code asks
abbrev pub asking : Question → Asking
asking question = record {
  config = question.config.now;
  rows = question.rows.now.rows;
  names = question.names.now;
  message = question.message.now;
  client = question.client.now;
  now = question.moment;
}

-- ---- the subnet that serves a message

-- the subnet in which the client keeps the lease that it renews, if it does
abbrev pub kept_subnet : Asking → Option Subnet
kept_subnet q = kept_in q.config q.rows q.message q.now q.client

-- the subnet that serves the message: the one in which the client keeps its lease, or else that of
-- its place and classes
abbrev pub serving_subnet : Asking → Option Subnet
serving_subnet q =
    option_or (kept_subnet q) (subnet_serving q.config q.names q.message)

-- the times of a lease of an address that the message gets
abbrev pub granted_times : Asking → ℕ → Times
granted_times q a = times_in_subnet q (serving_subnet q) a

-- ---- rows

-- a row of the client, set at the present time
abbrev pub row_set_now : Asking → ℕ → State → ℕ → Row
row_set_now q a state ends =
    record { address = a; client = q.client; state = state; changed = q.now; ends = ends }

-- the row of an address that is offered
abbrev pub offered_row : Asking → ℕ → Row
offered_row q a = row_set_now q a states.Offered (q.now + q.config.times.offer_hold)

-- the row of an address that is leased
abbrev pub leased_row : Asking → ℕ → Row
leased_row q a = row_set_now q a states.Bound (q.now + (granted_times q a).lifetime)

-- the row of an address that its client released
abbrev pub released_row : Asking → ℕ → Row
released_row q a = row_set_now q a states.Released q.now

-- the row of an address that another host uses: it belongs to no client
abbrev pub declined_row : Asking → ℕ → Row
declined_row q a =
    record {
      address = a;
      client = [];
      state = states.Declined;
      changed = q.now;
      ends = q.now + q.config.times.decline_hold;
    }

-- the state is that of an offer
abbrev pub offered_state : State → Bool
offered_state states.Offered = true
offered_state other = false

-- the client leases an address
abbrev pub leased_to : Asking → ℕ → Bool
leased_to q a = is_leased_in q.rows q.now q.client a

-- an address is offered to the client: its row is the client's, has not ended, and is offered
abbrev pub offered_to : Asking → ℕ → Bool
offered_to q a =
    has_such (λ row. live_row q.now row && (belongs_to q.client row && offered_state row.state))
    (row_at q.rows a)

-- the client holds an address: its row is the client's, has not ended, and is offered or bound
abbrev pub held_at : Asking → ℕ → Bool
held_at q a = has_such (held_row q) (row_at q.rows a)

-- the row of an address is the client's
abbrev pub client_has : Asking → ℕ → Bool
client_has q a = has_such (belongs_to q.client) (row_at q.rows a)

-- the client has a row at an address of the subnet, or of its shared network
abbrev pub is_record : Asking → Subnet → ℕ → Bool
is_record q s a = client_has q a && covers q.config.subnets s a

-- the newest of the addresses that pass a test, or none if there is none
abbrev pub IsNewest : List Row → (ℕ → Bool) → Option ℕ → Type 0
IsNewest rows such None = (a : ℕ) → such a ≡ false
IsNewest rows such (Some a) =
    (such a ≡ true) × ((b : ℕ) → such b ≡ true → set_later rows b a ≡ false)

-- the row that an offer sets; none if the client leases the address
abbrev pub row_of_offer : Asking → ℕ → Option Row
row_of_offer q a = if leased_to q a then None else Some (offered_row q a)

-- the address of a REQUEST that names no server: the one that the client has, or else the one that
-- it asks for
abbrev pub renewed_address : Seen → Option ℕ
renewed_address m = if m.header.ciaddr == 0 then requested_address m else Some m.header.ciaddr

-- ---- what may last

-- a lease of an address that the client of a message keeps may last: a pool contains the address, for
-- whichever class, and it is not reserved; or its reservation may be for the client
abbrev pub may_last : Configuration → Seen → Subnet → ℕ → Bool
may_last config m s a =
    (contained s a && not (reserved_anywhere config a)) || is_some (unseen_reservation m s a)

-- an address may be renewed in a subnet: it fits, or the client keeps its lease and that may last
abbrev pub lasting_for : Asking → Subnet → ℕ → Bool
lasting_for q s a =
    fitting_for q s a || (is_some (kept_subnet q) && may_last q.config q.message s a)

-- the client may renew its lease of an address: the row is the client's, and the address may be
-- renewed
abbrev pub renewable : Asking → Subnet → ℕ → Bool
renewable q s a = client_has q a && lasting_for q s a

-- nobody uses an address: it has no row, or one that has ended, or that of an offer to the client
abbrev pub is_unused : Asking → ℕ → Bool
is_unused q a = not (has_such (live_row q.now) (row_at q.rows a)) || offered_to q a

-- the client keeps its lease of an address whose reservation may be for it, though no relay shows that
abbrev pub may_be_its : Asking → Subnet → ℕ → Bool
may_be_its q s a = is_some (kept_subnet q) && is_some (unseen_reservation q.message s a)

-- an address, if it is another one than this
abbrev pub other_than : ℕ → Option ℕ → Option ℕ
other_than a None = None
other_than a (Some b) = if b == a then None else Some b

-- the address, other than this one, that is reserved for the client in a subnet, unless this one may be
-- reserved for it
abbrev pub awaited_in : Asking → Subnet → ℕ → Option ℕ
awaited_in q s a =
    if may_be_its q s a then None
    else other_than a (address_reserved q.config q.names q.message s)

-- there is such an address, and nobody uses it
abbrev pub is_awaited : Asking → Subnet → ℕ → Bool
is_awaited q s a = passes (is_unused q) (awaited_in q s a)

-- ---- the address that a message is about

-- the address to offer to the client, or none if there is none
abbrev pub IsChosen : Asking → Subnet → Option ℕ → Type 0
IsChosen q s None = NoChoice q s
IsChosen q s (Some a) = Choice q s a

-- the same in a subnet, if there is one
abbrev pub IsChosenIn : Asking → Option Subnet → Option ℕ → Type 0
IsChosenIn q None about = about ≡ None
IsChosenIn q (Some s) about = IsChosen q s about

-- the address that a message is about, by its rule
abbrev pub IsAbout : Asking → Rule → Option ℕ → Type 0
IsAbout q rules.Discover about = IsChosenIn q (serving_subnet q) about
IsAbout q rules.Select about = about ≡ requested_address q.message
IsAbout q rules.Renew about = about ≡ renewed_address q.message
IsAbout q rules.Decline about = about ≡ requested_address q.message
IsAbout q rules.Release about = about ≡ ciaddr_in q.message
IsAbout q rules.Inform about = about ≡ ciaddr_in q.message
IsAbout q rules.Server about = about ≡ None

-- ---- the checks

-- a subnet serves the message, there is an address, and it passes a test there
abbrev pub passes_in : (Subnet → ℕ → Bool) → Option Subnet → Option ℕ → Bool
passes_in test None about = false
passes_in test (Some s) about = passes (test s) about

-- a subnet serves the message, and the client has a row at an address of it, or of its shared
-- network
abbrev pub known_in : Asking → Option Subnet → Bool
known_in q None = false
known_in q (Some s) = list_any (λ row. is_record q s row.address) q.rows

-- the client is to move: in a configuration whose clients do, another address than the one that its
-- message is about, which nobody uses, is reserved for it
abbrev pub has_to_move : Asking → Option ℕ → Bool
has_to_move q about =
    q.config.extensions.moves_clients && passes_in (is_awaited q) (serving_subnet q) about

-- a message about this address passes a check
abbrev pub holds_at : Asking → Option ℕ → Check → Bool
holds_at q about checks.Server = not (names_another q.config q.message)
holds_at q about checks.Address = is_some about
holds_at q about checks.Choice = is_some about
holds_at q about checks.Subnet = is_some (serving_subnet q)
holds_at q about checks.Prefix =
    passes_in (covers q.config.subnets) (serving_subnet q) about
holds_at q about checks.Client =
    q.config.extensions.is_authoritative || known_in q (serving_subnet q)
holds_at q about checks.Owner = passes (client_has q) about
holds_at q about checks.Fits = passes_in (fitting_for q) (serving_subnet q) about
holds_at q about checks.Lasts = passes_in (lasting_for q) (serving_subnet q) about
holds_at q about checks.Free = passes (free_for q) about
holds_at q about checks.Stays = not (has_to_move q about)
holds_at q about checks.Held = passes (held_at q) about

-- ---- the rules

-- the rule for a message of a type that names a server or none
abbrev pub rule_by : MessageType → Option ℕ → Rule
rule_by types.Discover named = rules.Discover
rule_by types.Request None = rules.Renew
rule_by types.Request (Some server) = rules.Select
rule_by types.Decline named = rules.Decline
rule_by types.Release named = rules.Release
rule_by types.Inform named = rules.Inform
rule_by other named = rules.Server

-- the checks of a rule, in order, each with how a message ends that does not pass it
abbrev pub checks_in : Rule → List (Check × Ending)
checks_in rules.Discover =
    (checks.Subnet, ends.Quiet reasons.NoSubnet)
    ∷ (checks.Choice, ends.Quiet reasons.NoAddress) ∷ []
checks_in rules.Select =
    (checks.Server, ends.GiveBack)
    ∷ (checks.Address, ends.Quiet reasons.NoRequested)
    ∷ (checks.Subnet, ends.Quiet reasons.NoSubnet)
    ∷ (checks.Fits, ends.Nak)
    ∷ (checks.Free, ends.Nak)
    ∷ (checks.Stays, ends.Nak) ∷ []
checks_in rules.Renew =
    (checks.Server, ends.GiveBack)
    ∷ (checks.Address, ends.Quiet reasons.NoRequested)
    ∷ (checks.Subnet, ends.Quiet reasons.NoSubnet)
    ∷ (checks.Prefix, ends.Nak)
    ∷ (checks.Client, ends.Quiet reasons.NoRecord)
    ∷ (checks.Owner, ends.Nak)
    ∷ (checks.Lasts, ends.Nak)
    ∷ (checks.Stays, ends.Nak) ∷ []
checks_in rules.Decline =
    (checks.Server, ends.Quiet reasons.OtherServer)
    ∷ (checks.Address, ends.Quiet reasons.NoRequested)
    ∷ (checks.Held, ends.Quiet reasons.NotHeld) ∷ []
checks_in rules.Release =
    (checks.Server, ends.Quiet reasons.OtherServer)
    ∷ (checks.Address, ends.Quiet reasons.NoCiaddr)
    ∷ (checks.Held, ends.Quiet reasons.NotHeld) ∷ []
checks_in rules.Inform =
    (checks.Address, ends.Quiet reasons.NoCiaddr)
    ∷ (checks.Subnet, ends.Quiet reasons.NoSubnet) ∷ []
checks_in rules.Server = []

-- how a message ends that passes all of them
abbrev pub end_by : Rule → Ending
end_by rules.Discover = ends.Offer
end_by rules.Select = ends.Lease
end_by rules.Renew = ends.Lease
end_by rules.Decline = ends.Withhold
end_by rules.Release = ends.Release
end_by rules.Inform = ends.Inform
end_by rules.Server = ends.Quiet reasons.NotRequest

-- a message about this address does not pass the check of a line
abbrev pub fails : Asking → Option ℕ → Check × Ending → Bool
fails q about line = not (holds_at q about line.0)

-- how a message ends: as the line says whose check it does not pass first, if there is one, or else
-- as the rule does
abbrev pub ends_by : Option (Check × Ending) → Ending → Ending
ends_by None done = done
ends_by (Some line) done = line.1

-- how a message about this address ends by a rule
abbrev pub ending : Asking → Option ℕ → Rule → Ending
ending q about rule = ends_by (find (fails q about) (checks_in rule)) (end_by rule)

-- ---- what a message sets and gets

-- what a message gets is a reply of this kind, which assigns this address or zero
abbrev pub IsReplyOf : PlanKind → ℕ → Outcome → Type 0
IsReplyOf kind a (planned its b content) = (its ≡ kind) × (b ≡ a)
IsReplyOf kind a (quiet reason) = ⊥

-- the newest offer to the client, if there is one, is released
abbrev pub IsGivenBack : Asking → Option Row → Type 0
IsGivenBack q set =
    (offer : Option ℕ) × IsNewest q.rows (offered_to q) offer
    × (set ≡ option_map (released_row q) offer)

-- this row is set, and there is no reply, for this reason
abbrev pub IsSilent : Option Row → Reason → Option Row → Outcome → Type 0
IsSilent row reason set outcome = (set ≡ row) × (outcome ≡ quiet reason)

-- this row is set, and the reply is of this kind and assigns this address
abbrev pub Replies : Option Row → PlanKind → ℕ → Option Row → Outcome → Type 0
Replies row kind a set outcome = (set ≡ row) × IsReplyOf kind a outcome

-- what a message about this address sets and gets, by how it ends
abbrev pub Makes : Asking → Option ℕ → Ending → Option Row → Outcome → Type 0
Makes q about ends.Offer set outcome =
    IsSomeAnd about (λ a. Replies (row_of_offer q a) kinds.Offer a set outcome)
Makes q about ends.Lease set outcome =
    IsSomeAnd about (λ a. Replies (Some (leased_row q a)) kinds.Ack a set outcome)
Makes q about ends.Nak set outcome = Replies None kinds.Nak 0 set outcome
Makes q about ends.GiveBack set outcome =
    IsGivenBack q set × (outcome ≡ quiet reasons.OtherServer)
Makes q about ends.Withhold set outcome =
    IsSomeAnd about (λ a. IsSilent (Some (declined_row q a)) reasons.Declined set outcome)
Makes q about ends.Release set outcome =
    IsSomeAnd about (λ a. IsSilent (Some (released_row q a)) reasons.Released set outcome)
Makes q about ends.Inform set outcome = Replies None kinds.InformAck 0 set outcome
Makes q about (ends.Quiet reason) set outcome = IsSilent None reason set outcome

-- the rule for a message of this type
abbrev pub rule_of : Asking → MessageType → Rule
rule_of q type = rule_by type (named_server q.message)

-- what a message of this type does, by the address that it is about and how it ends
pub record Sets (q : Asking) (type : MessageType) (set : Option Row)
    (outcome : Outcome) : Type 0 where
  pub address : Option ℕ
  pub about : IsAbout q (rule_of q type) address
  pub makes : Makes q address (ending q address (rule_of q type)) set outcome

-- what a message does, by its type
pub record Does (q : Asking) (set : Option Row) (outcome : Outcome) : Type 0 where
  pub type : MessageType
  pub is : type_number type ≡ kind_of q.message
  pub sets : Sets q type set outcome

-- a row was changed at this time, and its times are in range
pub record IsSetAt (moment : ℕ) (row : Row) : Type 0 where
  pub changed : row.changed ≡ moment
  pub in_range : IsInRange row
