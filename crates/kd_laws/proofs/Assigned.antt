-- The address that a reply assigns has 32 bits: it is of a pool or a reservation of the subnet in
-- which the message is served.
use Rattle.std.proofs.Common.{◌≡◌, ℕ, ◌^◌, ◌<◌, Bool, true, false, not, ◌&&◌, ◌||◌, nat_le, List, [], ◌∷◌, Option, None, Some, ⊎_elim, ◌⊎◌, inl, inr, refl, sym, subst, arith, is_none, is_some}
use Rattle.std.specs.Prelude.{IfSome, IsSomeAnd, option_and_then}
use Rattle.std.specs.List.{AllByRecursion, find, list_any}
use Rattle.std.proofs.lemmas.Bool.{and_parts, eqb-true, false≢true, leb-true, or_cases}
use Rattle.kd_config.specs.Apart.{has}
use Rattle.kd_config.specs.Reservation.{has_reserved}
use Rattle.kd_config.specs.Sound.{IsSound}
use Rattle.kd_config.specs.declared.pool.Pool.{Pool}
use Rattle.kd_config.specs.declared.reservation.Reservation.{Reservation}
use Rattle.kd_config.specs.declared.subnet.Subnet.{Subnet}
use Rattle.kd_event.specs.declared.reason.Reason.{Reason}
use Rattle.kd_lease.specs.Choice.{Asking, Rank, address_reserved, client_reservation, contained, fitting_for, free_for, has_rank, has_such, held_row, live_row, past_row, pool_gives, pooled, reserved_anywhere, same_address, usable}
use Rattle.kd_lease.specs.Choice.Rank.{reserved as reserved_rank, own, past, asked, fresh, expired}
use Rattle.kd_lease.proofs.Homes.{found_passes}
use Rattle.kd_lease.proofs.Served.{find-each}
use Rattle.kd_lease.specs.Kept.{if_unseen, unseen_reservation}
use Rattle.kd_lease.specs.Laws.{EndsAreFounded, IsFounded}
use Rattle.kd_lease.specs.Plan.{Content, Outcome}
use Rattle.kd_lease.specs.Plan.Outcome.{planned, quiet}
use Rattle.kd_lease.specs.Client.{requested_address}
use Rattle.kd_lease.specs.Rules.{Does, IsReplyOf, IsSilent, Makes, client_has, declined_row, ending, kept_subnet, lasting_for, may_last, released_row, renewable, rule_of, serving_subnet}
use Rattle.kd_config.specs.Classed.{classes_admit}
use Rattle.kd_lease.specs.declared.plan.PlanKind.{PlanKind}
use Rattle.kd_lease.specs.declared.plan.PlanKind.TheVariants as kinds
use Rattle.kd_lease.specs.declared.rule.Ending.{Ending}
use Rattle.kd_lease.specs.declared.rule.Ending.TheVariants as ends
use Rattle.kd_options.specs.Message.{Seen}
use Rattle.kd_options.specs.declared.kind.MessageType.{MessageType}
use Rattle.kd_rows.specs.Table.{row_at}
use Rattle.kd_rows.specs.declared.row.Row.{Row}
use Rattle.kd_laws.proofs.Homes.{Serves, ServesClient, ServesPool, serving_serves}
use Rattle.kd_laws.proofs.Hosts.{client_each}

-- an address of some pool of several has 32 bits
pools_32 : (names : List (List ℕ)) (pools : List Pool) (a : ℕ) → AllByRecursion ServesPool pools → list_any (λ pool. pool_gives names pool a) pools ≡ true → a < 2 ^ 32
pools_32 names [] a each inside = absurd (false≢true inside)
pools_32 names (pool ∷ pools) a each inside =
    ⊎_elim (λ here. one (and_parts (classes_admit pool.classes names) (has pool.range a) here).1) (pools_32 names pools a each.1) (or_cases (pool_gives names pool a) (list_any (λ p. pool_gives names p a) pools) inside) where
      one : has pool.range a ≡ true → a < 2 ^ 32
      one here =
          let below = leb-true a pool.range.last (and_parts (nat_le pool.range.first a) (nat_le a pool.range.last) here).1 in
          let last = each.0.last in
          omega (arith, last, below)

-- so has an address that some pool of several contains, whoever may have it
contained_32 : (pools : List Pool) (a : ℕ) → AllByRecursion ServesPool pools → list_any (λ pool. has pool.range a) pools ≡ true → a < 2 ^ 32
contained_32 [] a each inside = absurd (false≢true inside)
contained_32 (pool ∷ pools) a each inside =
    ⊎_elim one (contained_32 pools a each.1) (or_cases (has pool.range a) (list_any (λ p. has p.range a) pools) inside) where
      one : has pool.range a ≡ true → a < 2 ^ 32
      one here =
          let below = leb-true a pool.range.last (and_parts (nat_le pool.range.first a) (nat_le a pool.range.last) here).1 in
          let last = each.0.last in
          omega (arith, last, below)

-- so has an address that is reserved
client_32 : (r : Reservation) (a : ℕ) → ServesClient r → same_address r.address a ≡ true → a < 2 ^ 32
client_32 r a is same = by r.address refl same where
  by : (o : Option ℕ) → r.address ≡ o → same_address o a ≡ true → a < 2 ^ 32
  by None e h = absurd (false≢true h)
  by (Some b) e h = subst (λ (c : ℕ). c < 2 ^ 32) (eqb-true b a h) (is.address b e)

same_32 : (r : Option Reservation) (a : ℕ) → IfSome r ServesClient → same_address (option_and_then (λ x. x.address) r) a ≡ true → a < 2 ^ 32
same_32 None a is same = absurd (false≢true same)
same_32 (Some r) a is same = client_32 r a is same

-- so has one whose reservation no relay shows
unseen_32 : (m : Seen) (rs : List Reservation) (a : ℕ) → AllByRecursion ServesClient rs → is_some (if_unseen m (find (has_reserved a) rs)) ≡ true → a < 2 ^ 32
unseen_32 m rs a each there = by (find (has_reserved a) rs) refl (find-each ServesClient (has_reserved a) rs each) there where
  by : (o : Option Reservation) → find (has_reserved a) rs ≡ o → IfSome o ServesClient → is_some (if_unseen m o) ≡ true → a < 2 ^ 32
  by None e is h = absurd (false≢true h)
  by (Some r) e is h = client_32 r a is (found_passes (has_reserved a) rs r e)

-- an address that fits has 32 bits
fitting_32 : (q : Asking) (s : Subnet) (a : ℕ) → Serves s → fitting_for q s a ≡ true → a < 2 ^ 32
fitting_32 q s a is fits =
    let client = client_each ServesClient q.names q.message s is.reservations q.config in
    ⊎_elim
    (λ open_one. pools_32 q.names s.pools a is.pools (and_parts (pooled q.names s a) (not (reserved_anywhere q.config a)) open_one).0)
    (λ mine. same_32 (client_reservation q.config q.names q.message s) a client mine)
    (or_cases (pooled q.names s a && not (reserved_anywhere q.config a)) (same_address (address_reserved q.config q.names q.message s) a) fits)

-- so has an address that may be renewed
lasting_32 : (q : Asking) (s : Subnet) (a : ℕ) → Serves s → lasting_for q s a ≡ true → a < 2 ^ 32
lasting_32 q s a is lasts =
    let free = contained s a && not (reserved_anywhere q.config a) in
    let unseen = is_some (unseen_reservation q.message s a) in
    ⊎_elim
    (λ fits. fitting_32 q s a is fits)
    (λ kept. ⊎_elim (λ open_one. contained_32 s.pools a is.pools (and_parts (contained s a) (not (reserved_anywhere q.config a)) open_one).0) (unseen_32 q.message s.reservations a is.reservations)
    (or_cases free unseen (and_parts (is_some (kept_subnet q)) (may_last q.config q.message s a) kept).1))
    (or_cases (fitting_for q s a) (is_some (kept_subnet q) && may_last q.config q.message s a) lasts)

-- what holds if its second part does
or_second : (x y : Bool) → y ≡ true → (x || y) ≡ true
or_second true y is = λ i. true
or_second false y is = is

-- an address that has a rank fits
ranked_fits : (q : Asking) (s : Subnet) (rank : Rank) (a : ℕ) → has_rank q s rank a ≡ true → fitting_for q s a ≡ true
ranked_fits q s reserved_rank a h =
    let own_one = same_address (address_reserved q.config q.names q.message s) a in
    or_second (pooled q.names s a && not (reserved_anywhere q.config a)) own_one (and_parts own_one (free_for q a) h).0
ranked_fits q s own a h = (and_parts (has_such (held_row q) (row_at q.rows a)) (fitting_for q s a) h).1
ranked_fits q s past a h = (and_parts (has_such (past_row q) (row_at q.rows a)) (fitting_for q s a) h).1
ranked_fits q s asked a h =
    (and_parts (fitting_for q s a) (free_for q a) (and_parts (same_address (requested_address q.message) a) (usable q s a) h).1).0
ranked_fits q s fresh a h =
    (and_parts (is_none (row_at q.rows a)) (fitting_for q s a) (and_parts (pooled q.names s a) (is_none (row_at q.rows a) && fitting_for q s a) h).1).1
ranked_fits q s expired a h =
    let ended = has_such (λ row. not (live_row q.now row)) (row_at q.rows a) in
    (and_parts ended (fitting_for q s a) (and_parts (pooled q.names s a) (ended && fitting_for q s a) h).1).1

-- a reply, if there is one, assigns an address of 32 bits, or zero
Assigns32 : Outcome → Type 0
Assigns32 (planned kind a content) = a < 2 ^ 32
Assigns32 (quiet reason) = Unit {0}

-- no reply assigns none
quiet_32 : (reason : Reason) (outcome : Outcome) → outcome ≡ quiet reason → Assigns32 outcome
unfolding Assigns32
quiet_32 reason outcome is = subst Assigns32 (sym is) tt

-- a reply assigns such an address if the address that it is to assign is one
reply_32 : (kind : PlanKind) (a : ℕ) (outcome : Outcome) → a < 2 ^ 32 → IsReplyOf kind a outcome → Assigns32 outcome
unfolding Assigns32
reply_32 kind a (planned its b content) small h = omega (arith, small, h.1)
reply_32 kind a (quiet reason) small h = absurd h

module _ (founded : EndsAreFounded) (q : Asking) (sound : IsSound q.config) (set : Option Row) (outcome : Outcome) where
  -- the subnet in which the message is served
  serving : (s : Subnet) → serving_subnet q ≡ Some s → Serves s
  serving s is = subst (λ (o : Option Subnet). IfSome o Serves) is (serving_serves q sound)

  -- an address that is offered
  offer_32 : (type : MessageType) (about : Option ℕ) → IsFounded q type about ends.Offer → Makes q about ends.Offer set outcome → Assigns32 outcome
  offer_32 type None rests h = absurd h
  offer_32 type (Some a) rests h =
      let choice = rests.1.2 in reply_32 kinds.Offer a outcome (fitting_32 q rests.1.0 a (serving rests.1.0 rests.1.1) (ranked_fits q rests.1.0 choice.rank a choice.first.ranked)) h.1

  -- an address that is leased
  lease_32 : (type : MessageType) (about : Option ℕ) → IsFounded q type about ends.Lease → Makes q about ends.Lease set outcome → Assigns32 outcome
  lease_32 type None rests h = absurd h
  lease_32 type (Some a) rests h = reply_32 kinds.Ack a outcome (small rests.1.2) h.1 where
    there : Serves rests.1.0
    there = serving rests.1.0 rests.1.1

    small : (usable q rests.1.0 a ≡ true) ⊎ (renewable q rests.1.0 a ≡ true) → a < 2 ^ 32
    small (inl may) = fitting_32 q rests.1.0 a there (and_parts (fitting_for q rests.1.0 a) (free_for q a) may).0
    small (inr may) = lasting_32 q rests.1.0 a there (and_parts (client_has q a) (lasting_for q rests.1.0 a) may).1

  -- a message that is silent about an address
  silent_32 : (about : Option ℕ) (row : ℕ → Option Row) (reason : Reason) → IsSomeAnd about (λ a. IsSilent (row a) reason set outcome) → Assigns32 outcome
  silent_32 None row reason h = absurd h
  silent_32 (Some a) row reason h = quiet_32 reason outcome h.1

  -- every end
  made_32 : (type : MessageType) (about : Option ℕ) (end : Ending) → IsFounded q type about end → Makes q about end set outcome → Assigns32 outcome
  made_32 type about ends.Offer rests h = offer_32 type about rests h
  made_32 type about ends.Lease rests h = lease_32 type about rests h
  made_32 type about ends.Nak rests h = reply_32 kinds.Nak 0 outcome (omega arith) h.1
  made_32 type about ends.GiveBack rests h = quiet_32 _ outcome h.1
  made_32 type about ends.Withhold rests h = silent_32 about (λ a. Some (declined_row q a)) _ h
  made_32 type about ends.Release rests h = silent_32 about (λ a. Some (released_row q a)) _ h
  made_32 type about ends.Inform rests h = reply_32 kinds.InformAck 0 outcome (omega arith) h.1
  made_32 type about (ends.Quiet reason) rests h = quiet_32 reason outcome h.1

-- a planned reply assigns an address of 32 bits, or zero
pub assigned_32 : EndsAreFounded → (q : Asking) (set : Option Row) (kind : PlanKind) (a : ℕ) (content : Content) → IsSound q.config → Does q set (planned kind a content) → a < 2 ^ 32
unfolding Assigns32
assigned_32 founded q set kind a content sound does =
    let sets = does.sets in
    made_32 founded q sound set (planned kind a content) does.type sets.address (ending q sets.address (rule_of q does.type)) (founded q does.type sets.address sets.about) sets.makes
