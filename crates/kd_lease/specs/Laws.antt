-- What is true of the rules for every configuration, table, message and time.
use Rattle.std.specs.Prelude.{◌≡◌, ◌≢◌, ℕ, true, false, not, ◌&&◌, ◌==◌, ◌⊎◌, List, [], Option, Some, None, option_map, IsSomeAnd, is_some}
use Rattle.std.specs.List.{AllByRecursion, find}
use Rattle.kd_classes.specs.HeldSet.{HeldSet}
use Rattle.kd_config.specs.Address.{has_address}
use Rattle.kd_config.specs.Networks.{covers, home_of, part_holding}
use Rattle.kd_config.specs.Configuration.{Configuration}
use Rattle.kd_config.specs.declared.subnet.Subnet.{Subnet}
use Rattle.kd_options.specs.Kind.{type_number}
use Rattle.kd_options.specs.Message.{Seen}
use Rattle.kd_options.specs.declared.kind.MessageType.{MessageType}
use Rattle.kd_options.specs.declared.kind.MessageType.TheVariants as types
use Rattle.kd_rows.specs.Table.{belongs_to, row_at}
use Rattle.kd_rows.specs.declared.row.Row.{Row}
use Rattle.kd_lease.specs.Change.{Changes, Decides}
use Rattle.kd_lease.specs.Choice.{Asking, Choice, Rank, fitting_for, has_rank, is_from, live_row, usable}
use Rattle.kd_lease.specs.Client.{client_identity, identity_under, kind_of, named_server}
use Rattle.kd_lease.specs.Kept.{reservation_at}
use Rattle.kd_lease.specs.Membership.{InClasses}
use Rattle.kd_lease.specs.Plan.{Content, Outcome}
use Rattle.kd_lease.specs.Plan.Outcome.{planned}
use Rattle.kd_lease.specs.Rules.{Does, IsAbout, Makes, Sets, client_has, ending, has_to_move, held_at, holds_at, known_in, lasting_for, renewable, rule_of, serving_subnet}
use Rattle.kd_config.specs.Classed.{classes_admit}
use Rattle.kd_lease.specs.Server.{names_another, other_server, server_identifier}
use Rattle.kd_lease.specs.SubnetOf.{first_serving, header_place, link_of, message_place, subnet_serving}
use Rattle.kd_lease.specs.declared.plan.PlanKind.TheVariants as kinds
use Rattle.kd_lease.specs.declared.rule.Check.TheVariants as checks
use Rattle.kd_lease.specs.declared.rule.Ending.{Ending}
use Rattle.kd_lease.specs.declared.rule.Ending.TheVariants as ends
use Rattle.kd_lease.specs.declared.rule.Rule.TheVariants as rules

-- a row that is set has the present time as its time of change
abbrev pub SetsNow : Type 0
SetsNow =
    (q : Asking) (type : MessageType) (row : Row) (outcome : Outcome)
    → Sets q type (Some row) outcome → row.changed ≡ q.now

-- a NAK sets no row
abbrev pub NakSetsNone : Type 0
NakSetsNone =
    (q : Asking) (type : MessageType) (set : Option Row) (a : ℕ) (content : Content)
    → Sets q type set (planned kinds.Nak a content) → set ≡ None

-- a row that is not the client's and has not ended, whatever its state
pub record IsAnothers (q : Asking) (a : ℕ) (row : Row) : Type 0 where
  pub there : row_at q.rows a ≡ Some row
  pub live : live_row q.now row ≡ true
  pub other : belongs_to q.client row ≡ false

-- an address that has such a row has no rank
abbrev pub HeldHasNoRank : Type 0
HeldHasNoRank =
    (q : Asking) (s : Subnet) (rank : Rank) (a : ℕ) (row : Row) → IsAnothers q a row
    → has_rank q s rank a ≡ false

-- so the client can neither get it by a REQUEST nor renew it
abbrev pub HeldIsNotUsable : Type 0
HeldIsNotUsable =
    (q : Asking) (s : Subnet) (a : ℕ) (row : Row) → IsAnothers q a row
    → (usable q s a ≡ false) × (renewable q s a ≡ false)

-- and it is neither offered nor leased
abbrev pub HeldIsNotGiven : Type 0
HeldIsNotGiven =
    (q : Asking) (type : MessageType) (set : Option Row) (a : ℕ) (content : Content)
    (row : Row) → IsAnothers q a row
    → Sets q type set (planned kinds.Offer a content)
    ⊎ Sets q type set (planned kinds.Ack a content) → ⊥

-- what the end of a message of this type rests on: an address is offered to a DISCOVER if it is the
-- choice for the client, leased to a REQUEST if the client may be assigned it or renew it, and held
-- back for a DECLINE or released for a RELEASE if the client holds it
abbrev pub IsFounded : Asking → MessageType → Option ℕ → Ending → Type 0
IsFounded q type about ends.Offer =
    (type ≡ types.Discover)
    × IsSomeAnd about (λ a. (s : Subnet) × (serving_subnet q ≡ Some s) × Choice q s a)
IsFounded q type about ends.Lease =
    (type ≡ types.Request)
    × IsSomeAnd about (λ a. (s : Subnet) × (serving_subnet q ≡ Some s)
    × ((usable q s a ≡ true) ⊎ (renewable q s a ≡ true)))
IsFounded q type about ends.Withhold =
    (type ≡ types.Decline) × IsSomeAnd about (λ a. held_at q a ≡ true)
IsFounded q type about ends.Release =
    (type ≡ types.Release) × IsSomeAnd about (λ a. held_at q a ≡ true)
IsFounded q type about other = Unit {0}

-- every end rests on that
abbrev pub EndsAreFounded : Type 0
EndsAreFounded =
    (q : Asking) (type : MessageType) (about : Option ℕ) → IsAbout q (rule_of q type) about
    → IsFounded q type about (ending q about (rule_of q type))

-- what a message does is what its end makes, for each type and address that it has
abbrev pub EndsDecide : Type 0
EndsDecide =
    (q : Asking) (type : MessageType) (about : Option ℕ) (set : Option Row) (outcome : Outcome)
    → type_number type ≡ kind_of q.message → IsAbout q (rule_of q type) about → Does q set outcome
    → Makes q about (ending q about (rule_of q type)) set outcome

-- a message whose classes have these names, at a given time and over a table, sets at most one row
-- and gets at most one result
abbrev pub OneAnswer : Type 0
OneAnswer =
    (config : Configuration) (rows : List Row) (names : List (List ℕ)) (m : Seen) (now : ℕ)
    (set other : Option Row) (got its : Outcome) → Decides config rows names m now set got
    → Decides config rows names m now other its → (set ≡ other) × (got ≡ its)

-- so a message at a given time changes a table to at most one table, and gets at most one result
abbrev pub OneChange : Type 0
OneChange =
    (config : Configuration) (rows : List Row) (m : Seen) (now : ℕ) (new other : List Row)
    (got its : Outcome) → Changes config rows m now new got → Changes config rows m now other its
    → (new ≡ other) × (got ≡ its)

-- where no subnet names a relay, the first subnet serves whose prefix has the place of the message,
-- and whose class is held, or the shared network that it is in
abbrev pub ServesByPrefix : Type 0
ServesByPrefix =
    (config : Configuration) (names : List (List ℕ)) (m : Seen)
    → AllByRecursion (λ s. s.relays ≡ []) config.subnets
    → subnet_serving config names m
    ≡ option_map (home_of config.subnets)
    (find (λ s. has_address s.prefix (message_place config m) && classes_admit s.classes names)
    config.subnets)

-- where no subnet is in a shared network, the first subnet that serves a message serves it alone
abbrev pub ServesAlone : Type 0
ServesAlone =
    (config : Configuration) (names : List (List ℕ)) (m : Seen)
    → AllByRecursion (λ s. s.network ≡ 0) config.subnets
    → subnet_serving config names m ≡ first_serving config names m

-- where relays select no links, or the message came through no relay, its header alone says where
-- it comes from
abbrev pub PlaceByHeader : Type 0
PlaceByHeader =
    (config : Configuration) (m : Seen)
    → (config.extensions.selects_links && not (m.header.giaddr == 0)) ≡ false
    → (link_of config m ≡ None) × (message_place config m ≡ header_place config.server m.header)

-- where relays set no identifiers, or the message came through no relay, the server is known by its
-- address alone
abbrev pub KnownByAddress : Type 0
KnownByAddress =
    (config : Configuration) (m : Seen)
    → (config.extensions.sets_server && not (m.header.giaddr == 0)) ≡ false
    → (server_identifier config m ≡ config.server)
    × (names_another config m ≡ other_server config.server (named_server m))

-- where clients keep no leases, a message is served by its place and classes, and an address that
-- may be renewed fits
abbrev pub RenewedByClass : Type 0
RenewedByClass =
    (q : Asking) → q.config.extensions.keeps_leases ≡ false
    → (serving_subnet q ≡ subnet_serving q.config q.names q.message)
    × ((s : Subnet) (a : ℕ) → lasting_for q s a ≡ fitting_for q s a)

-- where clients are not to move, an address that is reserved for a client elsewhere refuses it nothing
abbrev pub NobodyMoves : Type 0
NobodyMoves =
    (q : Asking) (about : Option ℕ) → q.config.extensions.moves_clients ≡ false
    → holds_at q about checks.Stays ≡ true

-- a client that is to move can neither get another address by a REQUEST nor renew it
abbrev pub ClientsMove : Type 0
ClientsMove =
    (q : Asking) (a : ℕ) → has_to_move q (Some a) ≡ true
    → (ending q (Some a) rules.Select ≢ ends.Lease) × (ending q (Some a) rules.Renew ≢ ends.Lease)

-- where the server is not authoritative, a renewal is only refused for want of a record if its client
-- has none in the subnet that serves it
abbrev pub KnownByRecord : Type 0
KnownByRecord =
    (q : Asking) (about : Option ℕ) → q.config.extensions.is_authoritative ≡ false
    → holds_at q about checks.Client ≡ known_in q (serving_subnet q)

-- where it is, a client without a row at the address that it renews gets a NAK, if it has an address
-- and a subnet serves it
abbrev pub StrangersAreRefused : Type 0
StrangersAreRefused =
    (q : Asking) (a : ℕ) → q.config.extensions.is_authoritative ≡ true
    → named_server q.message ≡ None → is_some (serving_subnet q) ≡ true → client_has q a ≡ false
    → ending q (Some a) rules.Renew ≡ ends.Nak

-- where client identifiers are not ignored, who a client is follows from its message alone
abbrev pub KnownByMessage : Type 0
KnownByMessage =
    (config : Configuration) (m : Seen) → config.extensions.ignores_client_ids ≡ false
    → identity_under config m ≡ client_identity m

-- where kinds of identities have no order and clients keep no leases, the reservation that counts for a
-- message is the first of the subnet for its client, by the hardware address or by option 61
abbrev pub ReservedByList : Type 0
ReservedByList =
    (config : Configuration) (names : List (List ℕ)) (m : Seen) (s : Subnet) (a : ℕ)
    → config.extensions.identity_order ≡ [] → config.extensions.keeps_leases ≡ false
    → reservation_at config names m s a
    ≡ find (λ reservation. is_from m reservation.identity) s.reservations

-- a subnet in no network has the addresses of its prefix, and its own options and mask are given
abbrev pub StandsAlone : Type 0
StandsAlone =
    (subnets : List Subnet) (s : Subnet) (a : ℕ) → s.network ≡ 0
    → (covers subnets s a ≡ has_address s.prefix a) × (part_holding subnets s a ≡ s)

-- a message is in one list of classes at most
abbrev pub OneMembership : Type 0
OneMembership =
    (config : Configuration) (rows : List Row) (m : Seen) (now : ℕ) (names others : List (List ℕ))
    → InClasses config rows m now names → InClasses config rows m now others → names ≡ others

-- where clients are not known by their reservations, these are the classes whose tests are true, and no
-- others
abbrev pub ClassesByTests : Type 0
ClassesByTests =
    (config : Configuration) (rows : List Row) (m : Seen) (now : ℕ) (names : List (List ℕ))
    → config.extensions.knows_clients ≡ false
    → (InClasses config rows m now names → HeldSet m config.classes names)
    × (HeldSet m config.classes names → InClasses config rows m now names)
