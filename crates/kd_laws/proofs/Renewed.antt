-- A client that renews its lease without a relay passes all checks, whatever its classes.
use Rattle.std.proofs.Common.{◌≡◌, ℕ, Bool, true, false, not, ◌&&◌, ◌||◌, ◌==◌, List, [], ◌∷◌, Option, None, Some, is_none, is_some, option_map, refl, sym, ap, subst, ◌∙◌, if◌then◌else◌, ⊎_elim}
use Rattle.std.specs.List.{find}
use Rattle.std.specs.Option.{option_or}
use Rattle.std.proofs.lemmas.Bool.{and_from, and_parts, eqb-true, false≢true, or_cases, or_left, or_right}
use Rattle.std.proofs.lemmas.Option.{none-some, same_Some}
use Rattle.kd_config.specs.Address.{has_address}
use Rattle.kd_config.specs.Networks.{covers, home_of}
use Rattle.kd_config.specs.Reservation.{has_reserved}
use Rattle.kd_config.specs.declared.reservation.Reservation.{Reservation}
use Rattle.kd_config.specs.declared.subnet.Subnet.{Subnet}
use Rattle.kd_lease.proofs.Homes.{found, found_passes, home_contains, home_covers, none_among, weaker}
use Rattle.kd_lease.proofs.Records.{known_there}
use Rattle.kd_lease.specs.Choice.{Asking, address_reserved, contained, fitting_for, has_such, live_row, reserved_anywhere, reserved_in}
use Rattle.kd_lease.specs.Client.{kind_of, named_server, requested_address}
use Rattle.kd_lease.specs.Kept.{bound_state, ciaddr_in, has_to_keep, if_for_circuit, if_unseen, is_behind_circuit, is_leased_in, is_own_in_classes, passes, renews_lease, subnet_keeping, unseen_reservation}
use Rattle.kd_lease.specs.Laws.{EndsDecide}
use Rattle.kd_lease.specs.Plan.{Outcome}
use Rattle.kd_lease.specs.Rules.{Does, IsAbout, IsReplyOf, Makes, checks_in, client_has, ending, ends_by, fails, has_to_move, holds_at, is_awaited, is_unused, kept_subnet, known_in, lasting_for, leased_row, may_last, other_than, passes_in, rule_by, rule_of, serving_subnet}
use Rattle.kd_lease.specs.Server.{other_server, server_identifier}
use Rattle.kd_lease.specs.SubnetOf.{subnet_serving}
use Rattle.kd_lease.specs.declared.plan.PlanKind.TheVariants as kinds
use Rattle.kd_lease.specs.declared.rule.Check.{Check}
use Rattle.kd_lease.specs.declared.rule.Check.TheVariants as checks
use Rattle.kd_lease.specs.declared.rule.Ending.{Ending}
use Rattle.kd_lease.specs.declared.rule.Ending.TheVariants as ends
use Rattle.kd_lease.specs.declared.rule.Rule.{Rule}
use Rattle.kd_lease.specs.declared.rule.Rule.TheVariants as rules
use Rattle.kd_options.specs.Kind.{type_number}
use Rattle.kd_options.specs.Message.{Seen}
use Rattle.kd_options.specs.declared.kind.MessageType.TheVariants as types
use Rattle.kd_rows.specs.Table.{belongs_to, row_at}
use Rattle.kd_rows.specs.declared.row.Row.{Row}
use Rattle.kd_laws.specs.Renewals.{CircuitsKeepLeases, RenewalsAreKept, ReservationsKeepLeases, is_pooled_among}

-- ---- the message

is_none_of : {X : Type 0} (o : Option X) → is_none o ≡ true → o ≡ None
is_none_of None h = refl
is_none_of (Some x) h = absurd (false≢true h)

-- the address that the client has, and leases
leased : (rows : List Row) (now : ℕ) (client : List ℕ) (ciaddr : ℕ) → passes (is_leased_in rows now client) (if ciaddr == 0 then None else Some ciaddr) ≡ true
    → ((ciaddr == 0) ≡ false) × (is_leased_in rows now client ciaddr ≡ true)
leased rows now client ciaddr h = by (ciaddr == 0) refl h where
  by : (b : Bool) → (ciaddr == 0) ≡ b → passes (is_leased_in rows now client) (if b then None else Some ciaddr) ≡ true → ((ciaddr == 0) ≡ false) × (is_leased_in rows now client ciaddr ≡ true)
  by true e h = absurd (false≢true h)
  by false e h = (e, h)

-- a row that the client leases is its own
own_row_of : (client : List ℕ) (now : ℕ) (at : Option Row) → has_such (λ row. live_row now row && (belongs_to client row && bound_state row.state)) at ≡ true → has_such (belongs_to client) at ≡ true
own_row_of client now None h = absurd (false≢true h)
own_row_of client now (Some row) h =
    (and_parts (belongs_to client row) (bound_state row.state) (and_parts (live_row now row) (belongs_to client row && bound_state row.state) h).1).0

-- a message that passes the checks of a list ends as its rule does
Passed : Asking → Option ℕ → List (Check × Ending) → Type 0
Passed q about [] = Unit {0}
Passed q about (line ∷ lines) = (holds_at q about line.0 ≡ true) × Passed q about lines

none_fails : (q : Asking) (about : Option ℕ) (lines : List (Check × Ending)) → Passed q about lines → find (fails q about) lines ≡ None
unfolding Passed
none_fails q about [] h = refl
none_fails q about (line ∷ lines) h = ap (λ (b : Bool). if not b then Some line else find (fails q about) lines) h.0 ∙ none_fails q about lines h.1

-- ---- the subnet that has the address

-- a subnet has an address that a pool in it contains
pooled_keeper : (q : Asking) → is_pooled_among q.config.subnets q.message.header.ciaddr ≡ true → (s : Subnet) × (find (has_to_keep q.message.header.ciaddr) q.config.subnets ≡ Some s)
pooled_keeper q pooled =
    found (has_to_keep q.message.header.ciaddr) q.config.subnets
    (weaker (λ s. has_address s.prefix q.message.header.ciaddr && contained s q.message.header.ciaddr) (has_to_keep q.message.header.ciaddr)
    (λ s h. let parts = and_parts (has_address s.prefix q.message.header.ciaddr) (contained s q.message.header.ciaddr) h in and_from (has_address s.prefix q.message.header.ciaddr) (contained s q.message.header.ciaddr || reserved_in q.message.header.ciaddr s) parts.0 (or_left (contained s q.message.header.ciaddr) (reserved_in q.message.header.ciaddr s) parts.1))
    q.config.subnets pooled)

-- its prefix does, and a pool or a reservation
keeper_has : (q : Asking) (s : Subnet) → find (has_to_keep q.message.header.ciaddr) q.config.subnets ≡ Some s
    → (has_address s.prefix q.message.header.ciaddr ≡ true) × ((contained s q.message.header.ciaddr || reserved_in q.message.header.ciaddr s) ≡ true)
keeper_has q s there =
    and_parts (has_address s.prefix q.message.header.ciaddr) (contained s q.message.header.ciaddr || reserved_in q.message.header.ciaddr s) (found_passes (has_to_keep q.message.header.ciaddr) q.config.subnets s there)

-- if the address is not reserved, the lease may last there
free_lasts : (q : Asking) (s : Subnet) → find (has_to_keep q.message.header.ciaddr) q.config.subnets ≡ Some s → reserved_anywhere q.config q.message.header.ciaddr ≡ false → may_last q.config q.message (home_of q.config.subnets s) q.message.header.ciaddr ≡ true
free_lasts q s there free =
    or_left (contained home q.message.header.ciaddr && not (reserved_anywhere q.config q.message.header.ciaddr)) (is_some (unseen_reservation q.message home q.message.header.ciaddr))
    (and_from (contained home q.message.header.ciaddr) (not (reserved_anywhere q.config q.message.header.ciaddr)) (home_contains q.config.subnets (has_to_keep q.message.header.ciaddr) s q.message.header.ciaddr there in_pool) (ap not free)) where
      home : Subnet
      home = home_of q.config.subnets s

      in_pool : contained s q.message.header.ciaddr ≡ true
      in_pool =
          ⊎_elim (λ it. it) (λ reserved. absurd (false≢true (sym (none_among (has_to_keep q.message.header.ciaddr) (reserved_in q.message.header.ciaddr) q.config.subnets s there free) ∙ reserved)))
          (or_cases (contained s q.message.header.ciaddr) (reserved_in q.message.header.ciaddr s) (keeper_has q s there).1)

never : (b : Bool) → (b && false) ≡ false
never true = refl
never false = refl

module _ (q : Asking) (keeps : q.config.extensions.keeps_leases ≡ true) (renews : renews_lease q.rows q.message q.now q.client ≡ true) (first : (s : Subnet) × (find (has_to_keep q.message.header.ciaddr) q.config.subnets ≡ Some s)) (may : may_last q.config q.message (home_of q.config.subnets first.0) q.message.header.ciaddr ≡ true) where
  a : ℕ
  a = q.message.header.ciaddr

  kind : kind_of q.message ≡ type_number types.Request
  kind = eqb-true (kind_of q.message) (type_number types.Request) (and_parts (kind_of q.message == type_number types.Request) (is_none (named_server q.message) && (q.message.header.giaddr == 0 && passes (is_leased_in q.rows q.now q.client) (ciaddr_in q.message))) renews).0

  rest : (is_none (named_server q.message) && (q.message.header.giaddr == 0 && passes (is_leased_in q.rows q.now q.client) (ciaddr_in q.message))) ≡ true
  rest = (and_parts (kind_of q.message == type_number types.Request) (is_none (named_server q.message) && (q.message.header.giaddr == 0 && passes (is_leased_in q.rows q.now q.client) (ciaddr_in q.message))) renews).1

  unnamed : named_server q.message ≡ None
  unnamed = is_none_of (named_server q.message) (and_parts (is_none (named_server q.message)) (q.message.header.giaddr == 0 && passes (is_leased_in q.rows q.now q.client) (ciaddr_in q.message)) rest).0

  leases : ((a == 0) ≡ false) × (is_leased_in q.rows q.now q.client a ≡ true)
  unfolding a
  leases = leased q.rows q.now q.client q.message.header.ciaddr (and_parts (q.message.header.giaddr == 0) (passes (is_leased_in q.rows q.now q.client) (ciaddr_in q.message)) (and_parts (is_none (named_server q.message)) (q.message.header.giaddr == 0 && passes (is_leased_in q.rows q.now q.client) (ciaddr_in q.message)) rest).1).1

  mine : client_has q a ≡ true
  mine = own_row_of q.client q.now (row_at q.rows a) leases.1

  -- the home of the subnet that has the address
  its_home : Subnet
  its_home = home_of q.config.subnets first.0

  is_home : covers q.config.subnets its_home a ≡ true
  unfolding its_home a
  is_home = home_covers q.config.subnets (has_to_keep q.message.header.ciaddr) first.0 q.message.header.ciaddr first.1 (keeper_has q first.0 first.1).0

  kept : kept_subnet q ≡ Some its_home
  unfolding its_home a
  kept =
      ap (λ (b : Bool). if b then subnet_keeping q.config.subnets q.message.header.ciaddr else None) (and_from q.config.extensions.keeps_leases (renews_lease q.rows q.message q.now q.client) keeps renews)
      ∙ ap (option_map (home_of q.config.subnets)) first.1

  serves : serving_subnet q ≡ Some its_home
  serves = ap (λ (o : Option Subnet). option_or o (subnet_serving q.config q.names q.message)) kept

  lasts : lasting_for q its_home a ≡ true
  unfolding its_home a
  lasts =
      or_right (fitting_for q (home_of q.config.subnets first.0) q.message.header.ciaddr) (is_some (kept_subnet q) && may_last q.config q.message (home_of q.config.subnets first.0) q.message.header.ciaddr)
      (and_from (is_some (kept_subnet q)) (may_last q.config q.message (home_of q.config.subnets first.0) q.message.header.ciaddr) (ap is_some kept) may)

  server : holds_at q (Some a) checks.Server ≡ true
  server = ap (λ (o : Option ℕ). not (other_server q.config.server o && other_server (server_identifier q.config q.message) o)) unnamed

  prefix : holds_at q (Some a) checks.Prefix ≡ true
  prefix = ap (λ (o : Option Subnet). passes_in (covers q.config.subnets) o (Some a)) serves ∙ is_home

  known : holds_at q (Some a) checks.Client ≡ true
  known =
      or_right q.config.extensions.is_authoritative (known_in q (serving_subnet q))
      (ap (known_in q) serves ∙ sym (known_there q its_home (Some a) (and_from (client_has q a) (covers q.config.subnets its_home a) mine is_home)))

  renewable_there : holds_at q (Some a) checks.Lasts ≡ true
  renewable_there = ap (λ (o : Option Subnet). passes_in (lasting_for q) o (Some a)) serves ∙ lasts

  -- an address that may be its own by what only a relay shows is not one that it is to leave
  unseen_stays : is_some (unseen_reservation q.message its_home a) ≡ true → has_to_move q (Some a) ≡ false
  unfolding its_home a
  unseen_stays own =
      ap (λ (o : Option Subnet). q.config.extensions.moves_clients && passes_in (is_awaited q) o (Some a)) serves
      ∙ ap (λ (b : Bool). q.config.extensions.moves_clients && passes (is_unused q) (if b then None else other_than a (address_reserved q.config q.names q.message its_home))) (and_from (is_some (kept_subnet q)) (is_some (unseen_reservation q.message its_home a)) (ap is_some kept) own)
      ∙ never q.config.extensions.moves_clients

  -- so the message passes all checks, and the address is leased
  passed : has_to_move q (Some a) ≡ false → Passed q (Some a) (checks_in rules.Renew)
  unfolding Passed
  passed stays = (server, (refl, (ap is_some serves, (prefix, (known, (mine, (renewable_there, (ap not stays, tt))))))))

  ruled : rule_of q types.Request ≡ rules.Renew
  ruled = ap (rule_by types.Request) unnamed

  about : IsAbout q (rule_of q types.Request) (Some a)
  unfolding a
  about =
      subst (λ (r : Rule). IsAbout q r (Some q.message.header.ciaddr)) (sym ruled)
      (sym (ap (λ (b : Bool). if b then requested_address q.message else Some q.message.header.ciaddr) leases.0))

  leases_it : has_to_move q (Some a) ≡ false → ending q (Some a) (rule_of q types.Request) ≡ ends.Lease
  leases_it stays = ap (ending q (Some a)) ruled ∙ ap (λ (o : Option (Check × Ending)). ends_by o ends.Lease) (none_fails q (Some a) (checks_in rules.Renew) (passed stays))

  begins_anew : has_to_move q (Some q.message.header.ciaddr) ≡ false → EndsDecide → (set : Option Row) (outcome : Outcome) → Does q set outcome → (set ≡ Some (leased_row q q.message.header.ciaddr)) × IsReplyOf kinds.Ack q.message.header.ciaddr outcome
  unfolding a
  begins_anew stays decide set outcome does =
      subst (λ (e : Ending). Makes q (Some q.message.header.ciaddr) e set outcome) (leases_it stays) (decide q types.Request (Some q.message.header.ciaddr) set outcome (sym kind) about does)

-- a renewal without a relay is kept
pub renewals_kept : EndsDecide → RenewalsAreKept
renewals_kept decide q set outcome keeps renews pooled free stays does =
    let first = pooled_keeper q pooled in
    begins_anew q keeps renews first (free_lasts q first.0 first.1 free) stays decide set outcome does

-- the subnet that is found, if its home is this one
kept_there : (subnets : List Subnet) (a : ℕ) (s : Subnet) → subnet_keeping subnets a ≡ Some s → (t : Subnet) × (find (has_to_keep a) subnets ≡ Some t) × (home_of subnets t ≡ s)
kept_there subnets a s is = by (find (has_to_keep a) subnets) refl is where
  by : (o : Option Subnet) → find (has_to_keep a) subnets ≡ o → option_map (home_of subnets) o ≡ Some s → (t : Subnet) × (find (has_to_keep a) subnets ≡ Some t) × (home_of subnets t ≡ s)
  by None e h = absurd (none-some s h)
  by (Some t) e h = (t, e, same_Some (home_of subnets t) s h)

-- also where its reservation is one that no relay shows
pub reservations_kept : EndsDecide → ReservationsKeepLeases
unfolding its_home kept_there a
reservations_kept decide q s set outcome keeps renews there reserved does =
    let a = q.message.header.ciaddr in
    let first = kept_there q.config.subnets a s there in
    let some : is_some (unseen_reservation q.message (home_of q.config.subnets first.0) a) ≡ true = ap (λ (t : Subnet). is_some (unseen_reservation q.message t a)) first.2 ∙ reserved in
    let may = or_right (contained (home_of q.config.subnets first.0) a && not (reserved_anywhere q.config a)) (is_some (unseen_reservation q.message (home_of q.config.subnets first.0) a)) some in
    begins_anew q keeps renews (first.0, first.1) may (unseen_stays q keeps renews (first.0, first.1) may some) decide set outcome does

-- one for a circuit is of this kind
behind_unseen : (m : Seen) (o : Option Reservation) → is_some (if_for_circuit o) ≡ true → is_some (if_unseen m o) ≡ true
behind_unseen m None h = h
behind_unseen m (Some r) h = by (is_behind_circuit r.identity) h where
  by : (b : Bool) → is_some (if b then Some r else None) ≡ true → is_some (if b || is_own_in_classes m r then Some r else None) ≡ true
  by true h = refl
  by false h = absurd (false≢true h)

-- so also behind a circuit
pub circuits_kept : EndsDecide → CircuitsKeepLeases
circuits_kept decide q s set outcome keeps renews there reserved does =
    reservations_kept decide q s set outcome keeps renews there (behind_unseen q.message (find (has_reserved q.message.header.ciaddr) s.reservations) reserved) does
