-- The lines of what a message is and of what is found for it: its classes, its place, its subnet,
-- its reservation and the ranks of addresses.
use Rattle.std.specs.Prelude.{ℕ, ◌==◌, ◌&&◌, ◌||◌, not, Bool, true, false, is_none, is_some, if◌then◌else◌, List, [], ◌∷◌, ◌++◌, drop, Option, Some, None, Result, Err, codes, decimal, option_copied}
use Rattle.std.specs.List.{find, flat_map}
use Rattle.kd_classes.specs.declared.definition.ClassDef.{ClassDef}
use Rattle.kd_config.specs.Configuration.{Configuration}
use Rattle.kd_config.specs.declared.reservation.Identity.{Identity}
use Rattle.kd_config.specs.declared.reservation.Identity.TheVariants as identities
use Rattle.kd_config.specs.declared.reservation.Reservation.{Reservation}
use Rattle.kd_config.specs.declared.subnet.Subnet.{Subnet}
use Rattle.kd_event.specs.declared.reason.Reason.{Reason}
use Rattle.kd_event.specs.declared.reason.Reason.TheVariants as reasons
use Rattle.kd_lease.specs.Client.{kind_of, named_server, requested_address}
use Rattle.kd_lease.specs.Kept.{has_to_keep}
use Rattle.kd_lease.specs.SubnetOf.{has_place, has_relay, is_by_relay, link_of, message_place, served_by}
use Rattle.kd_lease.specs.declared.plan.Plan.{Plan}
use Rattle.kd_lease.specs.declared.ranks.Ranks.{Ranks}
use Rattle.kd_machine.specs.Parts.{is_held}
use Rattle.kd_machine.specs.declared.run.Outcome.{Outcome}
use Rattle.kd_names.specs.Values.{message_type_word}
use Rattle.kd_options.specs.Kind.{type_number}
use Rattle.kd_options.specs.Message.{Seen, mac_of}
use Rattle.kd_options.specs.declared.kind.MessageType.TheVariants as types
use Rattle.kd_text.specs.Text.{address_text, bytes_text, prefix_text}
use Rattle.kd_wire.specs.declared.header.Header.{Header}
use Rattle.kd_explain.specs.declared.explaining.Explanation.{Explanation}
use Rattle.kd_explain.specs.Words.{address_word, bytes_word, name_text, truth_word, unless_zero}

-- ---- the message

-- the line of the time that counts
abbrev pub moment_line : ℕ → List ℕ
moment_line moment = codes "moment " ++ decimal moment ++ codes "\n"

-- the type of a message, its hardware address and its client
unfoldable pub client_words : Seen → Option (List ℕ) → List ℕ
client_words m client =
    codes "message " ++ message_type_word (kind_of m) ++ codes " mac "
    ++ bytes_text (mac_of m.header)
    ++ codes " client " ++ bytes_word client

-- the addresses in its header
unfoldable pub header_words : Header → List ℕ
header_words h =
    codes " relay " ++ address_word (unless_zero h.giaddr)
    ++ codes " ciaddr " ++ address_word (unless_zero h.ciaddr)

-- the addresses in its options, and the end of the line
unfoldable pub option_words : Seen → List ℕ
option_words m =
    codes " requested " ++ address_word (requested_address m)
    ++ codes " server " ++ address_word (named_server m) ++ codes "\n"

-- the lines of a message from this client at a time
unfoldable pub message_lines : ℕ → Seen → Option (List ℕ) → List ℕ
message_lines moment m client =
    moment_line moment ++ client_words m client ++ header_words m.header ++ option_words m

-- ---- its classes

-- the result of the test of a class, if it has one
abbrev pub outcome_words : Option Outcome → List ℕ
outcome_words None = codes " no test\n"
outcome_words (Some outcome) =
    codes " " ++ truth_word outcome.value ++ codes " steps " ++ decimal outcome.steps ++ codes "\n"

-- the line of a class
unfoldable pub tested_line : ClassDef → Option Outcome → List ℕ
tested_line class outcome = codes "class " ++ name_text class.name ++ outcome_words outcome

-- the first outcome of a list, if there is one
abbrev pub first_outcome : List (Option Outcome) → Option Outcome
first_outcome [] = None
first_outcome (outcome ∷ outcomes) = outcome

-- the lines of classes, each with its outcome
unfoldable pub class_lines : List ClassDef → List (Option Outcome) → List ℕ
class_lines [] outcomes = []
class_lines (class ∷ classes) outcomes =
    tested_line class (first_outcome outcomes) ++ class_lines classes (drop 1 outcomes)

-- a name, after a space
abbrev pub name_behind : List ℕ → List ℕ
name_behind name = codes " " ++ name_text name

-- the line of the names of all classes that the message is in
unfoldable pub names_line : List (List ℕ) → List ℕ
names_line names = codes "classes" ++ flat_map name_behind names ++ codes "\n"

-- ---- its place and its subnet

-- what the place of a message with this header is taken from, where its relay selects no link
abbrev pub header_word : Header → List ℕ
header_word h =
    if not (h.giaddr == 0) then codes "relay"
    else if not (h.ciaddr == 0) then codes "ciaddr" else codes "server"

-- what the place of a message is taken from, by the link that its relay selects
abbrev pub place_word : Option ℕ → Header → List ℕ
place_word None h = header_word h
place_word (Some link) h = codes "link"

-- the line of the place that a message comes from
unfoldable pub place_line : Configuration → Seen → List ℕ
place_line config m =
    codes "place " ++ address_text (message_place config m) ++ codes " "
    ++ place_word (link_of config m) m.header ++ codes "\n"

-- the line of a subnet: its prefix, and whether it serves
unfoldable pub sought_line : Subnet → List ℕ → List ℕ
sought_line s words =
    codes "subnet " ++ prefix_text s.prefix.address s.prefix.length ++ words ++ codes "\n"

-- the name of a class, if there is one
abbrev pub class_word : Option (List ℕ) → List ℕ
class_word None = codes "-"
class_word (Some class) = name_text class

-- what a place is to a subnet that does not have it
abbrev pub elsewhere_words : Bool → List ℕ
elsewhere_words by_relay = if by_relay then codes " is no relay of it" else codes " is outside"

-- the first of these classes that is not held
abbrev pub missing_class : List (List ℕ) → List (List ℕ) → Option (List ℕ)
missing_class classes names = find (λ class. not (is_held class names)) classes

-- a message came through a relay, which selects no link; its place is then that relay
abbrev pub is_relayed : Configuration → Seen → Bool
is_relayed config m = is_none (link_of config m) && not (m.header.giaddr == 0)

-- only its classes can keep a subnet from serving: it has the place, or names the relay
abbrev pub is_candidate : Bool → Bool → ℕ → Subnet → Bool
is_candidate relayed by_relay place s = has_place by_relay place s || (relayed && has_relay place s)

-- why a subnet is passed over: the message is not in one of its classes, of which the first is
-- named; or else the place is no relay of it, or outside its prefix
unfoldable pub passed_words : Bool → Bool → ℕ → List (List ℕ) → Subnet → List ℕ
passed_words relayed by_relay place names s =
    if is_candidate relayed by_relay place s
    then codes " passed over: the client is not in class " ++ class_word (missing_class s.classes names)
    else codes " passed over: " ++ address_text place ++ elsewhere_words by_relay

-- a subnet is in the shared network of another one
abbrev pub shares_network : Subnet → Subnet → Bool
shares_network serving s = not (serving.network == 0) && s.network == serving.network

-- what a subnet after the one that serves is to it
abbrev pub later_words : Bool → List ℕ
later_words shares = if shares then codes " in the same network" else codes " not asked"

-- the line of a subnet after the one that serves
abbrev pub later_line : Subnet → Subnet → List ℕ
later_line serving s = sought_line s (later_words (shares_network serving s))

-- the lines of subnets for a place and a message with these class names: those that are passed
-- over, the first that serves, and those after it
unfoldable pub sought_lines : Bool → Bool → ℕ → List (List ℕ) → List Subnet → List ℕ
sought_lines relayed by_relay place names [] = codes "subnet - none serves\n"
sought_lines relayed by_relay place names (s ∷ subnets) =
    if served_by by_relay place names s
    then sought_line s (codes " serves") ++ flat_map (later_line s) subnets
    else sought_line s (passed_words relayed by_relay place names s)
    ++ sought_lines relayed by_relay place names subnets

-- what a subnet is to an address whose lease is kept
abbrev pub keeping_words : Bool → List ℕ
keeping_words has_it =
    if has_it then codes " has the address, whose lease the client keeps"
    else codes " does not have the address"

-- the line of a subnet for such an address
abbrev pub keeping_line : ℕ → Subnet → List ℕ
keeping_line a s = sought_line s (keeping_words (has_to_keep a s))

-- the lines of the subnets: for the lease that the client keeps in one of them, or else for the
-- place and the classes of the message
abbrev pub served_lines : Option Subnet → Configuration → List (List ℕ) → Seen → List ℕ
served_lines None config names m =
    sought_lines (is_relayed config m) (is_by_relay config names m) (message_place config m) names
    config.subnets
served_lines (Some kept) config names m =
    flat_map (keeping_line m.header.ciaddr) config.subnets

-- ---- its reservation

-- the configuration key by which a client is named
abbrev pub key_word : Identity → List ℕ
key_word (identities.Hardware bytes) = codes "hw-address"
key_word (identities.Duid bytes) = codes "duid"
key_word (identities.Circuit bytes) = codes "circuit-id"
key_word (identities.ClientId bytes) = codes "client-id"

-- the line of a reservation: its address, if it has one, and the key by which its client is named
unfoldable pub reserved_line : Reservation → List ℕ
reserved_line reservation =
    codes "reservation " ++ address_word reservation.address ++ codes " by "
    ++ key_word reservation.identity ++ codes "\n"

-- the line of the reservation for the client, if a subnet serves the message
abbrev pub reservation_line : Option Subnet → Option Reservation → List ℕ
reservation_line None found = []
reservation_line (Some s) None = codes "reservation -\n"
reservation_line (Some s) (Some reservation) = reserved_line reservation

-- ---- its ranks

-- the number of the first rank that has an address, or zero
unfoldable pub winning_rank : Ranks → ℕ
winning_rank ranks =
    if is_some ranks.reserved then 1
    else (if is_some ranks.own then 2
    else (if is_some ranks.past then 3
    else (if is_some ranks.asked then 4
    else (if is_some ranks.fresh then 5
    else (if is_some ranks.expired then 6
    else 0)))))

-- the line of a rank: its number and name, its address if it has one, and whether it wins
unfoldable pub rank_line : Bool → List ℕ → Option ℕ → List ℕ
rank_line wins rank address =
    codes "rank " ++ rank ++ codes " " ++ address_word address
    ++ (if wins then codes " wins\n" else codes "\n")

-- the lines of the ranks, the strongest first
unfoldable pub rank_lines : Ranks → List ℕ
rank_lines ranks =
    rank_line (winning_rank ranks == 1) (codes "1 reserved") ranks.reserved
    ++ rank_line (winning_rank ranks == 2) (codes "2 own") ranks.own
    ++ rank_line (winning_rank ranks == 3) (codes "3 past") ranks.past
    ++ rank_line (winning_rank ranks == 4) (codes "4 asked") ranks.asked
    ++ rank_line (winning_rank ranks == 5) (codes "5 fresh") ranks.fresh
    ++ rank_line (winning_rank ranks == 6) (codes "6 expired") ranks.expired

-- no check before its type ends a message
abbrev pub reaches_rule : Result Plan Reason → Bool
reaches_rule (Err reasons.NotRequest) = false
reaches_rule (Err reasons.NoIdentity) = false
reaches_rule (Err reasons.DropClass) = false
reaches_rule other = true

-- the lines of the ranks, if they were found
abbrev pub ranks_text : Option Ranks → List ℕ
ranks_text None = []
ranks_text (Some ranks) = rank_lines ranks

-- the ranks of a DISCOVER that reaches its rule; other messages choose no address
abbrev pub chosen_text : Seen → Result Plan Reason → Option Ranks → List ℕ
chosen_text m answer ranks =
    if kind_of m == type_number types.Discover && reaches_rule answer then ranks_text ranks else []

-- ---- together

-- the lines of a message and of what is found for it, from an explanation of it at a time
unfoldable pub found_text : Configuration → Seen → ℕ → Explanation → List ℕ
found_text config m now e =
    message_lines now m e.client
    ++ (class_lines config.classes e.outcomes.items ++ names_line e.names)
    ++ place_line config m
    ++ served_lines (option_copied e.kept) config e.names m
    ++ reservation_line (option_copied e.subnet) (option_copied e.reservation)
    ++ chosen_text m e.decision.answer e.ranks
