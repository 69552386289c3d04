-- The rules have at most one answer: each of their relations holds for at most one row and one
-- plan.
use Rattle.std.proofs.Common.{◌≡◌, ℕ, ◌≤◌, ◌==◌, ◌&&◌, ◌||◌, nat_lt, Bool, true, false, codes, List, Option, Some, None, IsSomeAnd, option_map, refl, sym, ap, ◌∙◌, subst, arith, if◌then◌else◌}
use Rattle.std.proofs.lemmas.Bool.{and_parts, eqb-true, false≢true}
use Rattle.std.proofs.lemmas.Bool.Decides.{nat_tests}
use Rattle.kd_classes.specs.HeldSet.{HeldSet, JoinInOrder}
use Rattle.kd_classes.specs.declared.definition.ClassDef.{ClassDef}
use Rattle.kd_config.specs.Configuration.{Configuration}
use Rattle.kd_config.specs.declared.subnet.Subnet.{Subnet}
use Rattle.kd_event.specs.declared.reason.Reason.{Reason}
use Rattle.kd_event.specs.declared.reason.Reason.TheVariants as reasons
use Rattle.kd_lease.proofs.Guards.{nothing}
use Rattle.kd_lease.specs.Change.{AnswersTo, Decides, ForClient, HasReplyContent, Unless, WhereFits, after, asked_for, fits_in}
use Rattle.kd_lease.specs.Choice.{Asking, Choice, IsFirstOf, Rank, address_reserved, changed_in, free_for, pool_place, place, same_address, set_later, usable}
use Rattle.kd_lease.specs.Choice.Rank.{asked, expired, fresh, own, past, reserved}
use Rattle.kd_lease.specs.Client.{identity_under, reply_room, requested_address, server_message}
use Rattle.kd_lease.specs.Laws.{ClassesByTests, EndsDecide, OneAnswer, OneChange, OneMembership}
use Rattle.kd_lease.specs.Membership.{InClasses, StartsBy, counting_in, subnet_for, with_client}
use Rattle.kd_lease.specs.Plan.{Outcome}
use Rattle.kd_lease.specs.Plan.Outcome.{planned, quiet}
use Rattle.kd_lease.specs.ReplyOptions.{reply_content}
use Rattle.kd_lease.specs.Rules.{Does, IsAbout, IsChosen, IsChosenIn, IsNewest, IsReplyOf, IsSilent, Makes, Replies, Sets, ending, leased_row, declined_row, offered_to, released_row, row_of_offer, rule_of, serving_subnet}
use Rattle.kd_lease.specs.declared.plan.PlanKind.{PlanKind}
use Rattle.kd_lease.specs.declared.plan.PlanKind.TheVariants as kinds
use Rattle.kd_lease.specs.declared.rule.Ending.{Ending}
use Rattle.kd_lease.specs.declared.rule.Ending.TheVariants as ends
use Rattle.kd_lease.specs.declared.rule.Rule.{Rule}
use Rattle.kd_lease.specs.declared.rule.Rule.TheVariants as rules
use Rattle.kd_machine.specs.Held.{base_names}
use Rattle.kd_machine.specs.Parts.{is_held}
use Rattle.kd_options.specs.Joined.{value_of}
use Rattle.kd_options.specs.Kind.{type_number}
use Rattle.kd_options.specs.Message.{Seen}
use Rattle.kd_options.specs.declared.kind.MessageType.{MessageType}
use Rattle.kd_options.specs.declared.kind.MessageType.TheVariants as types
use Rattle.kd_rows.specs.Table.{row_at}
use Rattle.kd_rows.specs.declared.row.Row.{Row}

-- a relation holds for at most one row and one other thing
abbrev One : {B : Type 0} → (Option Row → B → Type 0) → Type 0
One {B} R = (x u : Option Row) (y v : B) → R x y → R u v → (x ≡ u) × (y ≡ v)

-- two pairs that are equal to a third are equal
both_same : {B : Type 0} {x u z : Option Row} {y v w : B} → (x ≡ z) × (y ≡ w) → (u ≡ z) × (v ≡ w) → (x ≡ u) × (y ≡ v)
both_same h k = (h.0 ∙ sym k.0, h.1 ∙ sym k.1)

-- an outcome without its content
abbrev bare : Outcome → Outcome
bare (planned kind a content) = planned kind a nothing
bare (quiet reason) = quiet reason

-- a relation holds for at most one row and one outcome, apart from its content
abbrev OneBare : (Option Row → Outcome → Type 0) → Type 0
OneBare R = (x u : Option Row) (y v : Outcome) → R x y → R u v → (x ≡ u) × (bare y ≡ bare v)

both_bare : {x u z : Option Row} {y v w : Outcome} → (x ≡ z) × (y ≡ w) → (u ≡ z) × (v ≡ w) → (x ≡ u) × (bare y ≡ bare v)
both_bare h k = (h.0 ∙ sym k.0, ap bare (h.1 ∙ sym k.1))

-- two addresses are equal if neither is newer
one_newer : (rows : List Row) (a b : ℕ) → set_later rows a b ≡ false → set_later rows b a ≡ false → a ≡ b
one_newer rows a b = by (changed_in (row_at rows a)) (changed_in (row_at rows b)) where
  by : (m n : ℕ) → (nat_lt n m || (m == n && nat_lt a b)) ≡ false → (nat_lt m n || (n == m && nat_lt b a)) ≡ false → a ≡ b
  by m n h k = grind (arith, nat_tests)

-- two addresses are equal if neither is earlier
one_earlier : (m n a b : ℕ) → (nat_lt m n || (m == n && nat_lt a b)) ≡ false → (nat_lt n m || (n == m && nat_lt b a)) ≡ false → a ≡ b
one_earlier m n a b h k = grind (arith, nat_tests)

one_same : (o : Option ℕ) (a b : ℕ) → same_address o a ≡ true → same_address o b ≡ true → a ≡ b
one_same None a b h k = absurd (false≢true h)
one_same (Some x) a b h k = sym (eqb-true x a h) ∙ eqb-true x b k

-- a rank has one first address
one_first : (q : Asking) (s : Subnet) (r : Rank) (a b : ℕ) → IsFirstOf q s r a → IsFirstOf q s r b → a ≡ b
one_first q s reserved a b f g =
    one_same (address_reserved q.config q.names q.message s) a b (and_parts (same_address (address_reserved q.config q.names q.message s) a) (free_for q a) f.ranked).0
    (and_parts (same_address (address_reserved q.config q.names q.message s) b) (free_for q b) g.ranked).0
one_first q s own a b f g = one_newer q.rows a b (g.first a f.ranked) (f.first b g.ranked)
one_first q s past a b f g = one_newer q.rows a b (g.first a f.ranked) (f.first b g.ranked)
one_first q s asked a b f g =
    one_same (requested_address q.message) a b (and_parts (same_address (requested_address q.message) a) (usable q s a) f.ranked).0
    (and_parts (same_address (requested_address q.message) b) (usable q s b) g.ranked).0
one_first q s fresh a b f g = one_earlier (pool_place q.names s.pools a) (pool_place q.names s.pools b) a b (g.first a f.ranked) (f.first b g.ranked)
one_first q s expired a b f g = one_earlier (pool_place q.names s.pools a) (pool_place q.names s.pools b) a b (g.first a f.ranked) (f.first b g.ranked)

-- the rank with a place
rank_at : ℕ → Rank
rank_at n =
    if n == 1 then reserved
    else if n == 2 then own
    else if n == 3 then past
    else if n == 4 then asked
    else if n == 5 then fresh
    else expired

rank_of_place : (r : Rank) → rank_at (place r) ≡ r
unfolding rank_at
rank_of_place reserved = refl
rank_of_place own = refl
rank_of_place past = refl
rank_of_place asked = refl
rank_of_place fresh = refl
rank_of_place expired = refl

-- there is one choice
one_choice : (q : Asking) (s : Subnet) (a b : ℕ) → Choice q s a → Choice q s b → a ≡ b
one_choice q s a b c d =
    let less : place c.rank ≤ place d.rank = c.least d.rank b d.first.ranked in
    let more : place d.rank ≤ place c.rank = d.least c.rank a c.first.ranked in
    let places : place c.rank ≡ place d.rank = omega arith in
    let same : c.rank ≡ d.rank = sym (rank_of_place c.rank) ∙ ap rank_at places ∙ rank_of_place d.rank in
    one_first q s d.rank a b (subst (λ (r : Rank). IsFirstOf q s r a) same c.first) d.first

-- there is one newest address of a kind
one_newest : (rows : List Row) (such : ℕ → Bool) (x y : Option ℕ) → IsNewest rows such x → IsNewest rows such y → x ≡ y
one_newest rows such None None f g = refl
one_newest rows such None (Some b) f g = absurd (false≢true (sym (f b) ∙ g.0))
one_newest rows such (Some a) None f g = absurd (false≢true (sym (g a) ∙ f.0))
one_newest rows such (Some a) (Some b) f g = ap Some (one_newer rows a b (g.1 a f.0) (f.1 b g.0))

-- there is one address to offer
one_chosen : (q : Asking) (s : Subnet) (x y : Option ℕ) → IsChosen q s x → IsChosen q s y → x ≡ y
one_chosen q s None None f g = refl
one_chosen q s None (Some b) f g = absurd (false≢true (sym (f g.rank b) ∙ g.first.ranked))
one_chosen q s (Some a) None f g = absurd (false≢true (sym (g f.rank a) ∙ f.first.ranked))
one_chosen q s (Some a) (Some b) f g = ap Some (one_choice q s a b f g)

one_chosen_in : (q : Asking) (o : Option Subnet) (x y : Option ℕ) → IsChosenIn q o x → IsChosenIn q o y → x ≡ y
one_chosen_in q None x y f g = f ∙ sym g
one_chosen_in q (Some s) x y f g = one_chosen q s x y f g

-- a message is about one address
one_about : (q : Asking) (rule : Rule) (x y : Option ℕ) → IsAbout q rule x → IsAbout q rule y → x ≡ y
one_about q rules.Discover x y f g = one_chosen_in q (serving_subnet q) x y f g
one_about q rules.Select x y f g = f ∙ sym g
one_about q rules.Renew x y f g = f ∙ sym g
one_about q rules.Decline x y f g = f ∙ sym g
one_about q rules.Release x y f g = f ∙ sym g
one_about q rules.Inform x y f g = f ∙ sym g
one_about q rules.Server x y f g = f ∙ sym g

bare_reply : (kind : PlanKind) (a : ℕ) (outcome : Outcome) → IsReplyOf kind a outcome → bare outcome ≡ planned kind a nothing
bare_reply kind a (planned its b content) h = ap (λ (k : PlanKind). planned k b nothing) h.0 ∙ ap (λ (n : ℕ). planned kind n nothing) h.1
bare_reply kind a (quiet reason) h = absurd h

one_reply : (row : Option Row) (kind : PlanKind) (a : ℕ) → OneBare (Replies row kind a)
one_reply row kind a x u y v h k = both_same (h.0, bare_reply kind a y h.1) (k.0, bare_reply kind a v k.1)

one_some : (about : Option ℕ) (Made : ℕ → Option Row → Outcome → Type 0) → ((a : ℕ) → OneBare (Made a)) → OneBare (λ set outcome. IsSomeAnd about (λ a. Made a set outcome))
one_some None Made one x u y v h k = absurd h
one_some (Some a) Made one x u y v h k = one a x u y v h k

one_silent : (row : Option Row) (reason : Reason) → OneBare (IsSilent row reason)
one_silent row reason x u y v h k = both_bare h k

-- an end makes one row and one outcome
one_made : (q : Asking) (about : Option ℕ) (end : Ending) → OneBare (Makes q about end)
one_made q about ends.Offer x u y v h k = one_some about (λ a. Replies (row_of_offer q a) kinds.Offer a) (λ a. one_reply (row_of_offer q a) kinds.Offer a) x u y v h k
one_made q about ends.Lease x u y v h k = one_some about (λ a. Replies (Some (leased_row q a)) kinds.Ack a) (λ a. one_reply (Some (leased_row q a)) kinds.Ack a) x u y v h k
one_made q about ends.Nak x u y v h k = one_reply None kinds.Nak 0 x u y v h k
one_made q about ends.GiveBack x u y v h k =
    let same : h.0.0 ≡ k.0.0 = one_newest q.rows (offered_to q) h.0.0 k.0.0 h.0.1 k.0.1 in
    (h.0.2 ∙ ap (option_map (released_row q)) same ∙ sym k.0.2, ap bare (h.1 ∙ sym k.1))
one_made q about ends.Withhold x u y v h k = one_some about (λ a. IsSilent (Some (declined_row q a)) reasons.Declined) (λ a. one_silent (Some (declined_row q a)) reasons.Declined) x u y v h k
one_made q about ends.Release x u y v h k = one_some about (λ a. IsSilent (Some (released_row q a)) reasons.Released) (λ a. one_silent (Some (released_row q a)) reasons.Released) x u y v h k
one_made q about ends.Inform x u y v h k = one_reply None kinds.InformAck 0 x u y v h k
one_made q about (ends.Quiet reason) x u y v h k = one_silent None reason x u y v h k

-- what a message of a type does is determined
one_sets : (q : Asking) (type : MessageType) → OneBare (Sets q type)
one_sets q type x u y v h k =
    let same : h.address ≡ k.address = one_about q (rule_of q type) h.address k.address h.about k.about in
    one_made q k.address (ending q k.address (rule_of q type)) x u y v (subst (λ (a : Option ℕ). Makes q a (ending q a (rule_of q type)) x y) same h.makes) k.makes

-- the type with a number
type_at : ℕ → MessageType
type_at n =
    if n == 1 then types.Discover
    else if n == 2 then types.Offer
    else if n == 3 then types.Request
    else if n == 4 then types.Decline
    else if n == 5 then types.Ack
    else if n == 6 then types.Nak
    else if n == 7 then types.Release
    else types.Inform

type_of_number : (type : MessageType) → type_at (type_number type) ≡ type
unfolding type_at
type_of_number types.Discover = refl
type_of_number types.Offer = refl
type_of_number types.Request = refl
type_of_number types.Decline = refl
type_of_number types.Ack = refl
type_of_number types.Nak = refl
type_of_number types.Release = refl
type_of_number types.Inform = refl

-- what a message does is determined
one_does : (q : Asking) → OneBare (Does q)
one_does q x u y v h k =
    let same : h.type ≡ k.type = sym (type_of_number h.type) ∙ ap type_at (h.is ∙ sym k.is) ∙ type_of_number k.type in
    one_sets q k.type x u y v (subst (λ (type : MessageType). Sets q type x y) same h.sets) k.sets

-- and it is what the end of the message makes
pub ends_decide : EndsDecide
ends_decide q type about set outcome is found does =
    let same_type : does.type ≡ type = sym (type_of_number does.type) ∙ ap type_at (does.is ∙ sym is) ∙ type_of_number type in
    let sets : Sets q type set outcome = subst (λ (t : MessageType). Sets q t set outcome) same_type does.sets in
    let same : sets.address ≡ about = one_about q (rule_of q type) sets.address about sets.about found in
    subst (λ (a : Option ℕ). Makes q a (ending q a (rule_of q type)) set outcome) same sets.makes

one_where_fits : (b : Bool) (row : Option Row) (outcome : Outcome) → One (WhereFits b row outcome)
one_where_fits true row outcome x u y v h k = both_same h k
one_where_fits false row outcome x u y v h k = both_same h k

-- an outcome with the content of a question
abbrev with_content : Asking → Outcome → Outcome
with_content q (planned kind a content) = planned kind a (reply_content q kind a)
with_content q (quiet reason) = quiet reason

whole : (q : Asking) (outcome : Outcome) → HasReplyContent q outcome → outcome ≡ with_content q (bare outcome)
whole q (planned kind a content) h = ap (planned kind a) h
whole q (quiet reason) h = refl

one_answers : (q : Asking) → One (AnswersTo q)
one_answers q x u y v h k =
    let same = one_does q h.row k.row h.outcome k.outcome h.does k.does in
    let outcomes : h.outcome ≡ k.outcome = whole q h.outcome h.content ∙ ap (with_content q) same.1 ∙ sym (whole q k.outcome k.content) in
    let at : WhereFits (fits_in (reply_room q.message) k.outcome) k.row k.outcome x y =
    subst (λ (row : Option Row). WhereFits (fits_in (reply_room q.message) k.outcome) row k.outcome x y) same.0
    (subst (λ (outcome : Outcome). WhereFits (fits_in (reply_room q.message) outcome) h.row outcome x y) outcomes h.replies) in
    one_where_fits (fits_in (reply_room q.message) k.outcome) k.row k.outcome x u y v at k.replies

one_unless : (b : Bool) (reason : Reason) (Done : Option Row → Outcome → Type 0) → One Done → One (Unless b reason Done)
one_unless true reason Done one x u y v h k = both_same h k
one_unless false reason Done one x u y v h k = one x u y v h k

one_for_client : (o : Option (List ℕ)) (Done : List ℕ → Option Row → Outcome → Type 0) → ((client : List ℕ) → One (Done client)) → One (ForClient o Done)
one_for_client None Done one x u y v h k = both_same h k
one_for_client (Some client) Done one x u y v h k = one client x u y v h k

-- what is decided for a message is determined
pub one_answer : OneAnswer
one_answer config rows names m now set other got its h k =
    one_unless (server_message m) reasons.NotRequest (ForClient (identity_under config m) served)
    (one_for_client (identity_under config m) served (λ client. one_unless (is_held (codes "DROP") names) reasons.DropClass (AnswersTo (asked_for config rows names m now client)) (one_answers (asked_for config rows names m now client))))
    set other got its h k where
      served : List ℕ → Option Row → Outcome → Type 0
      served client = Unless (is_held (codes "DROP") names) reasons.DropClass (AnswersTo (asked_for config rows names m now client))

-- names are joined by classes in at most one way
abbrev pub OneJoin : Type 0
OneJoin = (m : Seen) (defs : List ClassDef) (held names others : List (List ℕ)) → JoinInOrder m defs held names → JoinInOrder m defs held others → names ≡ others

one_start : OneJoin → (known : Bool) (config : Configuration) (rows : List Row) (m : Seen) (now : ℕ) (start other : List (List ℕ)) → StartsBy known config rows m now start → StartsBy known config rows m now other → start ≡ other
one_start one false config rows m now start other a b = a ∙ sym b
one_start one true config rows m now start other a b =
    let base = base_names (value_of 60 m.options) in
    let same : a.0 ≡ b.0 = one m config.classes base a.0 b.0 a.1 b.1 in
    a.2 ∙ ap (λ (names : List (List ℕ)). with_client (counting_in config names m (subnet_for config rows names m now)) base) same ∙ sym b.2

-- a message has at most one list of names
pub one_membership : OneJoin → OneMembership
one_membership one config rows m now names others a b =
    let same : a.start ≡ b.start = one_start one config.extensions.knows_clients config rows m now a.start b.start a.starts b.starts in
    one m config.classes b.start names others (subst (λ (start : List (List ℕ)). JoinInOrder m config.classes start names) same a.joined) b.joined

-- where clients are not known by their reservations, it is that of the tests alone
pub classes_by_tests : ClassesByTests
classes_by_tests config rows m now names none = (tested, joined) where
  base : List (List ℕ)
  base = base_names (value_of 60 m.options)

  tested : InClasses config rows m now names → HeldSet m config.classes names
  tested is =
      let start : is.start ≡ base = subst (λ (known : Bool). StartsBy known config rows m now is.start) none is.starts in
      subst (λ (start : List (List ℕ)). JoinInOrder m config.classes start names) start is.joined

  joined : HeldSet m config.classes names → InClasses config rows m now names
  joined held = record { start = base; starts = subst (λ (known : Bool). StartsBy known config rows m now base) (sym none) refl; joined = held }

-- so a table is changed to at most one table
pub one_change : OneAnswer → OneMembership → OneChange
one_change answer held config rows m now new other got its h k =
    let names : h.names ≡ k.names = held config rows m now h.names k.names h.held k.held in
    let decides : Decides config rows k.names m now h.set got = subst (λ (list : List (List ℕ)). Decides config rows list m now h.set got) names h.decides in
    let same = answer config rows k.names m now h.set k.set got its decides k.decides in
    (h.becomes ∙ ap (after rows) same.0 ∙ sym k.becomes, same.1)
