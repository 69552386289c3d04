-- The lines of what the rules check (RFC 2131 section 4.3), up to the check at which a message
-- ends.
use Rattle.std.specs.Prelude.{◌≡◌, ℕ, ◌==◌, nat_lt, Bool, false, if◌then◌else◌, List, [], ◌∷◌, ◌++◌, Option, Some, None, is_some, Result, Err, codes}
use Rattle.std.specs.List.{find, flat_map}
use Rattle.kd_config.specs.Reservation.{has_reserved}
use Rattle.kd_config.specs.declared.reservation.Reservation.{Reservation}
use Rattle.kd_config.specs.declared.subnet.Subnet.{Subnet}
use Rattle.kd_event.specs.declared.reason.Reason.{Reason}
use Rattle.kd_event.specs.declared.reason.Reason.TheVariants as reasons
use Rattle.kd_lease.specs.Choice.{Asking, address_reserved, contained, pooled, reserved_anywhere, same_address}
use Rattle.kd_lease.specs.Client.{kind_of, named_server}
use Rattle.kd_lease.specs.Kept.{circuit_reservation, is_own_in_classes, passes}
use Rattle.kd_lease.specs.Rules.{IsAbout, awaited_in, checks_in, ending, fails, holds_at, kept_subnet, passes_in, rule_of, serving_subnet}
use Rattle.kd_lease.specs.declared.plan.Plan.{Plan}
use Rattle.kd_lease.specs.declared.rule.Check.{Check}
use Rattle.kd_lease.specs.declared.rule.Check.TheVariants as checks
use Rattle.kd_lease.specs.declared.rule.Ending.{Ending}
use Rattle.kd_lease.specs.declared.rule.Ending.TheVariants as ends
use Rattle.kd_lease.specs.declared.rule.Rule.{Rule}
use Rattle.kd_lease.specs.declared.rule.Rule.TheVariants as rules
use Rattle.kd_listing.specs.Leases.{row_text, word_of_live}
use Rattle.kd_names.specs.Values.{message_type_word}
use Rattle.kd_options.specs.Kind.{type_number}
use Rattle.kd_options.specs.Message.{Seen}
use Rattle.kd_options.specs.declared.kind.MessageType.{MessageType}
use Rattle.kd_rows.specs.Table.{row_at}
use Rattle.kd_rows.specs.declared.row.Row.{Row}
use Rattle.kd_text.specs.Text.{address_text, prefix_text}
use Rattle.kd_explain.specs.Words.{yes_word}

-- ---- a line each

-- why a message is one that servers send
unfoldable pub sender_line : Seen → List ℕ
sender_line m =
    if m.header.op == 2 then codes "check sender: a server, by op 2\n"
    else codes "check sender: a server, by type " ++ message_type_word (kind_of m) ++ codes "\n"

-- which server a message names: this one or another
abbrev pub which_word : Bool → List ℕ
which_word is_this = if is_this then codes "this one" else codes "another one"

-- the server that a message names, which is this one or not
abbrev pub server_line : Bool → Option ℕ → List ℕ
server_line is_this None = codes "check server: none is named\n"
server_line is_this (Some named) =
    codes "check server: " ++ address_text named ++ codes " is " ++ which_word is_this ++ codes "\n"

-- the offer that a client gives back because it requests from another server
abbrev pub offer_line : Option Row → List ℕ
offer_line None = codes "check offer: none\n"
offer_line (Some row) =
    codes "check offer: " ++ address_text row.address ++ codes " is given back\n"

-- where the address of a REQUEST that names no server is taken from
abbrev pub renewed_source : Seen → List ℕ
renewed_source m = if m.header.ciaddr == 0 then codes "option 50" else codes "ciaddr"

-- where the address that a message is about is taken from, by its rule
abbrev pub address_source : Rule → Seen → List ℕ
address_source rules.Renew m = renewed_source m
address_source rules.Release m = codes "ciaddr"
address_source rules.Inform m = codes "ciaddr"
address_source other m = codes "option 50"

-- the address that a message is about, and where it is taken from
abbrev pub address_line : Option ℕ → List ℕ → List ℕ
address_line None source = codes "check address: none\n"
address_line (Some a) source =
    codes "check address: " ++ address_text a ++ codes " from " ++ source ++ codes "\n"

-- the shared network of a subnet, by its number, if it is in one
abbrev pub network_word : ℕ → List ℕ
network_word number = if number == 0 then [] else codes " and its network"

-- the prefix of a subnet, and its shared network, if there is one
abbrev pub served_word : Option Subnet → List ℕ
served_word None = codes "none"
served_word (Some s) = prefix_text s.prefix.address s.prefix.length ++ network_word s.network

-- the subnet that serves the message
abbrev pub served_line : Option Subnet → List ℕ
served_line s = codes "check subnet: " ++ served_word s ++ codes "\n"

-- whether the subnet's prefix, or that of a subnet of its shared network, contains the address
abbrev pub prefix_line : Bool → List ℕ
prefix_line has_it =
    if has_it then codes "check prefix: has the address\n"
    else codes "check prefix: does not have the address\n"

-- whether the client has a row at an address of the subnet, or of its shared network; an
-- authoritative server does not ask
abbrev pub known_line : Bool → Bool → List ℕ
known_line is_authoritative is_known =
    if is_authoritative then codes "check client: not asked, the server is authoritative\n"
    else if is_known then codes "check client: known in the subnet\n"
    else codes "check client: not known in the subnet\n"

-- a row at a time, if there is one
abbrev pub row_words : ℕ → Option Row → List ℕ
row_words now None = codes "none\n"
row_words now (Some row) =
    row_text row ++ codes " " ++ word_of_live (nat_lt now row.ends) ++ codes "\n"

-- the row of the address
abbrev pub row_line : ℕ → Option Row → List ℕ
row_line now row = codes "check row: " ++ row_words now row

-- the row of the address, if there is one, at the time and in the table of the question
abbrev pub row_line_at : Asking → Option ℕ → List ℕ
row_line_at q None = []
row_line_at q (Some a) = row_line q.now (row_at q.rows a)

-- whether the row is the client's
abbrev pub owner_line : Bool → List ℕ
owner_line is_own =
    if is_own then codes "check owner: the client\n" else codes "check owner: not the client\n"

-- whether a pool has the address for the client, or contains it for others
abbrev pub pool_word : Bool → Bool → List ℕ
pool_word is_given is_in =
    if is_given then codes "in a pool"
    else if is_in then codes "in a pool of another class" else codes "in no pool"

-- the reservation of an address in a subnet is for a circuit
abbrev pub reserved_for_circuit : Subnet → ℕ → Bool
reserved_for_circuit s a = is_some (circuit_reservation s a)

-- there is a reservation, and it is for the client of a message in some classes
abbrev pub is_own_if_some : Seen → Option Reservation → Bool
is_own_if_some m None = false
is_own_if_some m (Some reservation) = is_own_in_classes m reservation

-- the reservation of an address in a subnet is of that kind
abbrev pub reserved_in_classes : Seen → Subnet → ℕ → Bool
reserved_in_classes m s a = is_own_if_some m (find (has_reserved a) s.reservations)

-- whom the address is reserved for: the client, or else a circuit, or else the client in classes in
-- which it is not, or else anybody
abbrev pub reserved_word : Bool → Bool → Bool → Bool → List ℕ
reserved_word is_its is_circuits is_in_classes is_reserved =
    if is_its then codes "reserved for the client"
    else if is_circuits then codes "reserved for a circuit"
    else if is_in_classes then codes "reserved for the client in its classes"
    else if is_reserved then codes "reserved otherwise" else codes "not reserved"

-- the pool and the reservation of the address in the subnet that serves the message
abbrev pub place_words : Asking → Option Subnet → Option ℕ → List ℕ
place_words q s a =
    pool_word (passes_in (pooled q.names) s a) (passes_in contained s a) ++ codes ", "
    ++ reserved_word
    (passes_in (λ t b. same_address (address_reserved q.config q.names q.message t) b) s a)
    (passes_in reserved_for_circuit s a) (passes_in (reserved_in_classes q.message) s a)
    (passes (reserved_anywhere q.config) a)

-- whether it fits
abbrev pub fit_words : Bool → List ℕ
fit_words is_fit = codes "check fits: " ++ yes_word is_fit ++ codes ", "

-- whether the address fits
unfoldable pub fits_line : Bool → Asking → Option ℕ → List ℕ
fits_line is_fit q a = fit_words is_fit ++ (place_words q (serving_subnet q) a ++ codes "\n")

-- whether the client keeps the lease that it renews, and the end of the line
abbrev pub kept_words : Option Subnet → List ℕ
kept_words None = codes "\n"
kept_words (Some s) = codes ", the client keeps its lease\n"

-- whether the address may be renewed
unfoldable pub lasts_line : Bool → Asking → Option ℕ → List ℕ
lasts_line lasts q a =
    fit_words lasts ++ (place_words q (serving_subnet q) a ++ kept_words (kept_subnet q))

-- whether the address is free for the client
abbrev pub free_line : Bool → List ℕ
free_line is_free = codes "check free: " ++ yes_word is_free ++ codes "\n"

-- the address, other than the one that a message is about, that is reserved for the client in the
-- subnet that serves it
abbrev pub reserved_elsewhere : Asking → Option Subnet → Option ℕ → Option ℕ
reserved_elsewhere q None about = None
reserved_elsewhere q (Some s) None = None
reserved_elsewhere q (Some s) (Some a) = awaited_in q s a

-- that address, in a configuration whose clients are to move
abbrev pub awaited_address : Asking → Option ℕ → Option ℕ
awaited_address q a =
    if q.config.extensions.moves_clients then reserved_elsewhere q (serving_subnet q) a else None

-- whether somebody uses the address to which a client is to move, because of which it stays
abbrev pub use_word : Bool → List ℕ
use_word is_used = if is_used then codes "in use" else codes "unused"

-- an address that is reserved for the client, and whether it is in use
abbrev pub reserved_words : Bool → ℕ → List ℕ
reserved_words is_used a =
    address_text a ++ codes " is reserved for the client and " ++ use_word is_used ++ codes "\n"

-- whether the client stays where it is, if another address is reserved for it
abbrev pub stays_line : Bool → Option ℕ → List ℕ
stays_line stays None = []
stays_line stays (Some a) =
    codes "check stays: " ++ yes_word stays ++ codes ", " ++ reserved_words stays a

-- whether the client holds the address
abbrev pub held_line : Bool → List ℕ
held_line is_held = codes "check held: " ++ yes_word is_held ++ codes "\n"

-- ---- the rule of a message

-- the line of a check of a message about this address
abbrev pub rule_line : Asking → Rule → Option ℕ → Check → List ℕ
rule_line q rule a checks.Server =
    server_line (holds_at q a checks.Server) (named_server q.message)
rule_line q rule a checks.Address = address_line a (address_source rule q.message)
rule_line q rule a checks.Choice = []
rule_line q rule a checks.Subnet = served_line (serving_subnet q)
rule_line q rule a checks.Prefix = prefix_line (holds_at q a checks.Prefix)
rule_line q rule a checks.Client =
    known_line q.config.extensions.is_authoritative (holds_at q a checks.Client)
rule_line q rule a checks.Owner = row_line_at q a ++ owner_line (holds_at q a checks.Owner)
rule_line q rule a checks.Fits = fits_line (holds_at q a checks.Fits) q a
rule_line q rule a checks.Lasts = lasts_line (holds_at q a checks.Lasts) q a
rule_line q rule a checks.Free = row_line_at q a ++ free_line (holds_at q a checks.Free)
rule_line q rule a checks.Stays = stays_line (holds_at q a checks.Stays) (awaited_address q a)
rule_line q rule a checks.Held = row_line_at q a ++ held_line (holds_at q a checks.Held)

-- the checks that are made of a message: those of its rule up to the first that it does not pass
abbrev pub made : Asking → Option ℕ → List (Check × Ending) → List (Check × Ending)
made q a [] = []
made q a (line ∷ lines) = line ∷ (if fails q a line then [] else made q a lines)

-- their lines
unfoldable pub made_lines : Asking → Rule → Option ℕ → List (Check × Ending) → List ℕ
made_lines q rule a lines = flat_map (λ line. rule_line q rule a line.0) (made q a lines)

-- the line of an end: the offer that is given back
abbrev pub end_line : Ending → Option Row → List ℕ
end_line ends.GiveBack set = offer_line set
end_line other set = []

-- the lines of a message about this address that sets this row, or none
abbrev pub rule_lines : Asking → Rule → Option ℕ → Option Row → List ℕ
rule_lines q rule a set = made_lines q rule a (checks_in rule) ++ end_line (ending q a rule) set

-- a text tells what is checked of a client's message by the rule of its type, and of the address
-- that it is about
pub record TellsRule (q : Asking) (set : Option Row) (text : List ℕ) : Type 0 where
  pub type : MessageType
  pub is : type_number type ≡ kind_of q.message
  pub address : Option ℕ
  pub about : IsAbout q (rule_of q type) address
  pub lines : text ≡ rule_lines q (rule_of q type) address set

-- ---- together

-- the same, if the message has a client
abbrev pub TellsClient : (List ℕ → Asking) → Option Row → Option (List ℕ) → List ℕ → Type 0
TellsClient asks set None text = text ≡ []
TellsClient asks set (Some client) text = TellsRule (asks client) set text

-- the text is the line of the check at which the message ends before its rule; otherwise it tells
-- the rule, with a line for the room of the reply if that is why there is no reply
abbrev pub TellsChecks : Result Plan Reason → Seen → (List ℕ → Type 0) → List ℕ → Type 0
TellsChecks (Err reasons.NotRequest) m Tells text = text ≡ sender_line m
TellsChecks (Err reasons.NoIdentity) m Tells text = text ≡ codes "check identity: none\n"
TellsChecks (Err reasons.DropClass) m Tells text =
    text ≡ codes "check class: the client is in DROP\n"
TellsChecks (Err reasons.ReplyTooLong) m Tells text =
    (rule : List ℕ) × Tells rule
    × (text ≡ rule ++ codes "check room: too small for the options that the reply must have\n")
TellsChecks other m Tells text = Tells text
