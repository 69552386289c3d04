-- What a message does to an address whose row is a live lease: it sets a row there only for the
-- client of the lease, which leases the address again or gives it up.
use Rattle.std.proofs.Common.{◌≡◌, ℕ, ◌&&◌, ◌⊎◌, inl, inr, Bool, true, false, Option, Some, None, option_map, refl, sym, ap, ◌∙◌, subst, if◌then◌else◌}
use Rattle.std.proofs.lemmas.Bool.{and_from, and_parts, false≢true, true_from_ne_false}
use Rattle.std.proofs.lemmas.Option.{none-some}
use Rattle.kd_event.specs.declared.reason.Reason.{Reason}
use Rattle.kd_lease.specs.Choice.{Asking, has_such, held_row, holding_state, live_row, usable}
use Rattle.kd_lease.specs.Laws.{EndsAreFounded, HeldHasNoRank, HeldIsNotUsable, IsAnothers, IsFounded}
use Rattle.kd_lease.specs.Plan.{Content, Outcome}
use Rattle.kd_lease.specs.Plan.Outcome.{planned, quiet}
use Rattle.kd_lease.specs.Kept.{bound_state}
use Rattle.kd_lease.specs.Rules.{IsNewest, Makes, Sets, declined_row, ending, held_at, leased_row, leased_to, offered_row, offered_state, offered_to, released_row, renewable, rule_of}
use Rattle.kd_lease.specs.declared.plan.PlanKind.TheVariants as kinds
use Rattle.kd_lease.specs.declared.rule.Ending.{Ending}
use Rattle.kd_lease.specs.declared.rule.Ending.TheVariants as ends
use Rattle.kd_options.specs.declared.kind.MessageType.{MessageType}
use Rattle.kd_options.specs.declared.kind.MessageType.TheVariants as types
use Rattle.kd_rows.specs.Table.{belongs_to, row_at}
use Rattle.kd_rows.specs.declared.row.Row.{Row}
use Rattle.kd_rows.specs.declared.row.State.TheVariants as states

-- the row of an address is a live lease
pub record IsLease (q : Asking) (a : ℕ) (row : Row) : Type 0 where
  pub there : row_at q.rows a ≡ Some row
  pub live : live_row q.now row ≡ true
  pub bound : row.state ≡ states.Bound

-- a type of messages by which a client gives an address up
abbrev pub IsGivingUp : MessageType → Type 0
IsGivingUp type = (type ≡ types.Release) ⊎ (type ≡ types.Decline)

-- a row may be set in place of a lease: by its client, which leases the address again by a REQUEST,
-- or gives it up
pub record MayReplace (q : Asking) (type : MessageType) (row held : Row) : Type 0 where
  pub own : belongs_to q.client held ≡ true
  pub how : ((type ≡ types.Request) × (row ≡ leased_row q row.address)) ⊎ (IsGivingUp type × (bound_state row.state ≡ false))

-- a row may be set whatever lease is at its address
abbrev pub MaySet : Asking → MessageType → Row → Type 0
MaySet q type row = (held : Row) → IsLease q row.address held → MayReplace q type row held

-- so may the row that a message sets, if any
abbrev pub MaySetIt : Asking → MessageType → Option Row → Type 0
MaySetIt q type set = (row : Row) → set ≡ Some row → MaySet q type row

own_if : (q : Asking) (a : ℕ) (held : Row) → IsLease q a held → (IsAnothers q a held → ⊥) → belongs_to q.client held ≡ true
own_if q a held l none = true_from_ne_false (belongs_to q.client held) (λ e. none (record { there = l.there; live = l.live; other = e }))

none_set : (q : Asking) (type : MessageType) (set : Option Row) → set ≡ None → MaySetIt q type set
none_set q type set none row e = absurd (none-some row (sym none ∙ e))

one_set : (q : Asking) (type : MessageType) (set : Option Row) (row : Row) → set ≡ Some row → MaySet q type row → MaySetIt q type set
one_set q type set row is may r e = let same : row ≡ r = cc in subst (MaySet q type) same may

leases : (q : Asking) (a : ℕ) → ((held : Row) → IsAnothers q a held → ⊥) → MaySet q types.Request (leased_row q a)
leases q a fair held l = record { own = own_if q a held l (fair held); how = inl (refl, refl) }

-- an address that the client chose and leases is offered without a row
offers : (q : Asking) (type : MessageType) (a : ℕ) → ((held : Row) → IsAnothers q a held → ⊥) → leased_to q a ≡ false → MaySet q type (offered_row q a)
offers q type a fair not held l =
    let own = own_if q a held l (fair held) in
    let bound : bound_state held.state ≡ true = ap bound_state l.bound in
    let there : leased_to q a ≡ true = ap (has_such (λ row. live_row q.now row && (belongs_to q.client row && bound_state row.state))) l.there
    ∙ and_from (live_row q.now held) (belongs_to q.client held && bound_state held.state) l.live (and_from (belongs_to q.client held) (bound_state held.state) own bound) in
    absurd (false≢true (sym not ∙ there))

-- what the client holds is its own
held_own : (q : Asking) (a : ℕ) (held : Row) → held_at q a ≡ true → row_at q.rows a ≡ Some held → belongs_to q.client held ≡ true
held_own q a held h there =
    let e : (live_row q.now held && (belongs_to q.client held && holding_state held.state)) ≡ true = sym (ap (has_such (held_row q)) there) ∙ h in
    (and_parts (belongs_to q.client held) (holding_state held.state) (and_parts (live_row q.now held) (belongs_to q.client held && holding_state held.state) e).1).0

-- an offer is no lease
offer_unbound : (q : Asking) (a : ℕ) (held : Row) → offered_to q a ≡ true → IsLease q a held → ⊥
offer_unbound q a held h l =
    let e : (live_row q.now held && (belongs_to q.client held && offered_state held.state)) ≡ true
    = sym (ap (has_such (λ row. live_row q.now row && (belongs_to q.client row && offered_state row.state))) l.there) ∙ h in
    let offered_row : offered_state held.state ≡ true = (and_parts (belongs_to q.client held) (offered_state held.state) (and_parts (live_row q.now held) (belongs_to q.client held && offered_state held.state) e).1).1 in
    false≢true (sym (ap offered_state l.bound) ∙ offered_row)

-- an offer that is given back is no lease
given_back : (q : Asking) (type : MessageType) (set : Option Row) (offer : Option ℕ) → IsNewest q.rows (offered_to q) offer → set ≡ option_map (released_row q) offer → MaySetIt q type set
given_back q type set None newest e = none_set q type set e
given_back q type set (Some a) newest e = one_set q type set (released_row q a) e (λ held l. absurd (offer_unbound q a held newest.0 l))

-- an address that the client holds is given up
given_up : (q : Asking) (type : MessageType) (a : ℕ) (row : Row) (set : Option Row) → IsGivingUp type → held_at q a ≡ true → row.address ≡ a → bound_state row.state ≡ false → set ≡ Some row → MaySetIt q type set
given_up q type a row set giving holds at unbound is =
    one_set q type set row is (λ held l. record { own = held_own q a held holds (ap (row_at q.rows) (sym at) ∙ l.there); how = inr (giving, unbound) })

-- an address is offered that no other client has
offered : (q : Asking) (type : MessageType) (a : ℕ) (set : Option Row) → ((held : Row) → IsAnothers q a held → ⊥) → (b : Bool) → leased_to q a ≡ b → set ≡ (if b then None else Some (offered_row q a)) → MaySetIt q type set
offered q type a set fair true not e = none_set q type set e
offered q type a set fair false not e = one_set q type set (offered_row q a) e (offers q type a fair not)

-- given the laws of what ends rest on, and of an address that another client holds
module _ (founded : EndsAreFounded) (no_rank : HeldHasNoRank) (not_usable : HeldIsNotUsable) where
  made_offer : (q : Asking) (type : MessageType) (about : Option ℕ) (set : Option Row) (outcome : Outcome) → IsFounded q type about ends.Offer → Makes q about ends.Offer set outcome → MaySetIt q type set
  made_offer q type None set outcome rests h = absurd h
  made_offer q type (Some a) set outcome rests h = offered q type a set fair (leased_to q a) refl h.0 where
    fair : (held : Row) → IsAnothers q a held → ⊥
    fair held other = let choice = rests.1.2 in false≢true (sym (no_rank q rests.1.0 choice.rank a held other) ∙ choice.first.ranked)

  made_lease : (q : Asking) (type : MessageType) (about : Option ℕ) (set : Option Row) (outcome : Outcome) → IsFounded q type about ends.Lease → Makes q about ends.Lease set outcome → MaySetIt q type set
  made_lease q type None set outcome rests h = absurd h
  made_lease q type (Some a) set outcome rests h = one_set q type set (leased_row q a) h.0 (subst (λ (t : MessageType). MaySet q t (leased_row q a)) (sym rests.0) (leases q a (fair rests.1.2))) where
    fair : (usable q rests.1.0 a ≡ true) ⊎ (renewable q rests.1.0 a ≡ true) → (held : Row) → IsAnothers q a held → ⊥
    fair (inl may) held other = false≢true (sym (not_usable q rests.1.0 a held other).0 ∙ may)
    fair (inr may) held other = false≢true (sym (not_usable q rests.1.0 a held other).1 ∙ may)

  made_withheld : (q : Asking) (type : MessageType) (about : Option ℕ) (set : Option Row) (outcome : Outcome) → IsFounded q type about ends.Withhold → Makes q about ends.Withhold set outcome → MaySetIt q type set
  made_withheld q type None set outcome rests h = absurd h
  made_withheld q type (Some a) set outcome rests h = given_up q type a (declined_row q a) set (inr rests.0) rests.1 refl refl h.0

  made_release : (q : Asking) (type : MessageType) (about : Option ℕ) (set : Option Row) (outcome : Outcome) → IsFounded q type about ends.Release → Makes q about ends.Release set outcome → MaySetIt q type set
  made_release q type None set outcome rests h = absurd h
  made_release q type (Some a) set outcome rests h = given_up q type a (released_row q a) set (inl rests.0) rests.1 refl refl h.0

  -- the row that an end sets may be set
  made : (q : Asking) (type : MessageType) (about : Option ℕ) (end : Ending) (set : Option Row) (outcome : Outcome) → IsFounded q type about end → Makes q about end set outcome → MaySetIt q type set
  made q type about ends.Offer set outcome rests h = made_offer q type about set outcome rests h
  made q type about ends.Lease set outcome rests h = made_lease q type about set outcome rests h
  made q type about ends.Nak set outcome rests h = none_set q type set h.0
  made q type about ends.GiveBack set outcome rests h = given_back q type set h.0.0 h.0.1 h.0.2
  made q type about ends.Withhold set outcome rests h = made_withheld q type about set outcome rests h
  made q type about ends.Release set outcome rests h = made_release q type about set outcome rests h
  made q type about ends.Inform set outcome rests h = none_set q type set h.0
  made q type about (ends.Quiet reason) set outcome rests h = none_set q type set h.0

  -- the row that a message sets may be set, whatever lease is at its address
  pub may_set : (q : Asking) (type : MessageType) (set : Option Row) (outcome : Outcome) → Sets q type set outcome → MaySetIt q type set
  may_set q type set outcome h = made q type h.address (ending q h.address (rule_of q type)) set outcome (founded q type h.address h.about) h.makes

-- an end whose reply is an ACK of an address sets its lease
record IsLeaseOf (q : Asking) (end : Ending) (set : Option Row) (a : ℕ) : Type 0 where
  is : end ≡ ends.Lease
  row : set ≡ Some (leased_row q a)

-- an ACK is no other reply
not_offer : {A : Type 0} → kinds.Ack ≡ kinds.Offer → A
not_offer e = absurd (cc)

not_nak : {A : Type 0} → kinds.Ack ≡ kinds.Nak → A
not_nak e = absurd (cc)

not_inform : {A : Type 0} → kinds.Ack ≡ kinds.InformAck → A
not_inform e = absurd (cc)

-- and not quiet
not_quiet : {A : Type 0} (a : ℕ) (content : Content) (reason : Reason) → planned kinds.Ack a content ≡ quiet reason → A
not_quiet a content reason e = absurd (cc)

lease_of : (q : Asking) (about : Option ℕ) (end : Ending) (set : Option Row) (a : ℕ) (content : Content) → Makes q about end set (planned kinds.Ack a content) → IsLeaseOf q end set a
lease_of q None ends.Offer set a content h = absurd h
lease_of q (Some b) ends.Offer set a content h = not_offer h.1.0
lease_of q None ends.Lease set a content h = absurd h
lease_of q (Some b) ends.Lease set a content h = record { is = refl; row = h.0 ∙ ap (λ (x : ℕ). Some (leased_row q x)) (sym h.1.1) }
lease_of q about ends.Nak set a content h = not_nak h.1.0
lease_of q about ends.GiveBack set a content h = not_quiet a content _ h.1
lease_of q None ends.Withhold set a content h = absurd h
lease_of q (Some b) ends.Withhold set a content h = not_quiet a content _ h.1
lease_of q None ends.Release set a content h = absurd h
lease_of q (Some b) ends.Release set a content h = not_quiet a content _ h.1
lease_of q about ends.Inform set a content h = not_inform h.1.0
lease_of q about (ends.Quiet reason) set a content h = not_quiet a content reason h.1

-- if an ACK of an address is planned, the lease is set
pub acked : (q : Asking) (type : MessageType) (set : Option Row) (a : ℕ) (content : Content) → Sets q type set (planned kinds.Ack a content) → set ≡ Some (leased_row q a)
acked q type set a content h = (lease_of q h.address (ending q h.address (rule_of q type)) set a content h.makes).row

-- and it is planned only for a REQUEST
pub requested_if : EndsAreFounded → (q : Asking) (type : MessageType) (set : Option Row) (a : ℕ) (content : Content) → Sets q type set (planned kinds.Ack a content) → type ≡ types.Request
requested_if founded q type set a content h =
    let lease = lease_of q h.address (ending q h.address (rule_of q type)) set a content h.makes in
    (subst (IsFounded q type h.address) lease.is (founded q type h.address h.about)).0
