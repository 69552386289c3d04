-- What a message does: the rows that are set were changed now and are in range, a NAK sets none,
-- and no address that another client holds is assigned.
use Rattle.std.proofs.Common.{◌≡◌, ℕ, ◌<◌, ◌^◌, Bool, true, false, [], Option, Some, None, IfSome, option_map, refl, sym, ◌∙◌, subst, arith, if◌then◌else◌, ⊎_elim}
use Rattle.std.proofs.lemmas.Bool.{false≢true}
use Rattle.std.proofs.lemmas.Option.{none-some}
use Rattle.kd_classes.specs.Boot.{no_boot}
use Rattle.kd_config.specs.Sound.{IsSound}
use Rattle.kd_event.specs.declared.reason.Reason.{Reason}
use Rattle.kd_event.specs.declared.reason.Reason.TheVariants as reasons
use Rattle.kd_options.specs.declared.kind.MessageType.{MessageType}
use Rattle.kd_rows.specs.Row.{IsInRange}
use Rattle.kd_rows.specs.declared.row.Row.{Row}
use Rattle.kd_lease.specs.Booting.{fields_of}
use Rattle.kd_lease.specs.Choice.{Asking}
use Rattle.kd_lease.specs.Laws.{IsAnothers, IsFounded}
use Rattle.kd_lease.specs.Plan.{Content, Outcome}
use Rattle.kd_lease.specs.Plan.Outcome.{planned, quiet}
use Rattle.kd_lease.specs.Rules.{Does, IsSetAt, Makes, Replies, Sets, declined_row, ending, leased_row, leased_to, offered_row, released_row, row_of_offer, rule_of}
use Rattle.kd_lease.specs.declared.plan.PlanKind.{PlanKind}
use Rattle.kd_lease.specs.declared.plan.PlanKind.TheVariants as kinds
use Rattle.kd_lease.specs.declared.rule.Ending.{Ending}
use Rattle.kd_lease.specs.declared.rule.Ending.TheVariants as ends
use Rattle.kd_lease.proofs.Founded.{founded}
use Rattle.kd_lease.proofs.Held.{no_rank, not_renewed, not_usable}
use Rattle.kd_lease.proofs.Lifetimes.{granted_bounded}

-- a row is set now, and in range if the configuration is sound
pub record IsGood (q : Asking) (row : Row) : Type 0 where
  pub changed : row.changed ≡ q.now
  pub in_range : q.now < 2 ^ 40 → IsSound q.config → IsInRange row

-- a reply assigns an address
abbrev pub Gives : Outcome → ℕ → Type 0
Gives (planned kinds.Offer b content) a = b ≡ a
Gives (planned kinds.Ack b content) a = b ≡ a
Gives other a = ⊥

-- the content of a reply that says nothing
abbrev pub nothing : Content
nothing = record { fields = fields_of no_boot; options = [] }

-- a NAK
abbrev pub IsNak : Outcome → Type 0
IsNak (planned kinds.Nak a content) = Unit {0}
IsNak other = ⊥

-- a reply assigns no address that another client holds
abbrev pub IsFair : Asking → Outcome → Type 0
IsFair q outcome = (a : ℕ) (row : Row) → IsAnothers q a row → Gives outcome a → ⊥

-- what may be set with a reply: good rows, and none with a NAK; and the reply is fair
pub record IsGuarded (q : Asking) (set : Option Row) (outcome : Outcome) : Type 0 where
  pub good : (row : Row) → set ≡ Some row → IsGood q row
  pub nak : IsNak outcome → set ≡ None
  pub fair : IsFair q outcome

good_offered : (q : Asking) (a : ℕ) → IsGood q (offered_row q a)
good_offered q a = record { changed = λ i. q.now; in_range = λ early sound. let h = sound.times.offer_hold.below in record { set_at = early; earliest = omega arith; last = omega arith } }

good_leased : (q : Asking) (a : ℕ) → IsGood q (leased_row q a)
good_leased q a = record { changed = λ i. q.now; in_range = λ early sound. let h = granted_bounded q sound a in record { set_at = early; earliest = omega arith; last = omega arith } }

good_released : (q : Asking) (a : ℕ) → IsGood q (released_row q a)
good_released q a = record { changed = λ i. q.now; in_range = λ early sound. record { set_at = early; earliest = omega arith; last = omega arith } }

good_declined : (q : Asking) (a : ℕ) → IsGood q (declined_row q a)
good_declined q a = record { changed = λ i. q.now; in_range = λ early sound. let h = sound.times.decline_hold.below in record { set_at = early; earliest = omega arith; last = omega arith } }

none_set : (q : Asking) (set : Option Row) (outcome : Outcome) → set ≡ None → IsFair q outcome → IsGuarded q set outcome
none_set q set outcome none fair = record { good = λ row e. absurd (none-some row (sym none ∙ e)); nak = λ e. none; fair = fair }

silent_set : (q : Asking) (set : Option Row) (outcome : Outcome) (reason : Reason) → outcome ≡ quiet reason → ((row : Row) → set ≡ Some row → IsGood q row) → IsGuarded q set outcome
silent_set q set outcome reason is good = record {
  good = good;
  nak = λ e. absurd (subst IsNak is e);
  fair = λ a row held g. subst (λ (p : Outcome). Gives p a) is g;
}

-- a row that is set is this one
this_set : (q : Asking) (set : Option Row) (row : Row) → set ≡ Some row → IsGood q row → (r : Row) → set ≡ Some r → IsGood q r
this_set q set row is good r e = let same : row ≡ r = cc in subst (IsGood q) same good

-- no row is set
no_row : (q : Asking) (set : Option Row) → set ≡ None → (r : Row) → set ≡ Some r → IsGood q r
no_row q set none r e = absurd (none-some r (sym none ∙ e))

-- a reply without an address is fair
none_given : (q : Asking) (kind : PlanKind) (set : Option Row) (a : ℕ) (outcome : Outcome) → Replies None kind a set outcome → ((b : ℕ) (content : Content) → Gives (planned kind b content) b → ⊥) → IsGuarded q set outcome
none_given q kind set a (planned its b content) h never = none_set q set (planned its b content) h.0 (λ c row held g. never b content (subst (λ (k : PlanKind). Gives (planned k b content) b) h.1.0 (at its c g))) where
  at : (k : PlanKind) (c : ℕ) → Gives (planned k b content) c → Gives (planned k b content) b
  at kinds.Offer c g = refl
  at kinds.Ack c g = refl
  at kinds.Nak c g = g
  at kinds.InformAck c g = g
none_given q kind set a (quiet reason) h never = absurd h.1

-- a reply that assigns an address that no other client holds is fair
given : (q : Asking) (kind : PlanKind) (row : Option Row) (a : ℕ) (set : Option Row) (outcome : Outcome) → Replies row kind a set outcome
    → ((r : Row) → row ≡ Some r → IsGood q r) → (IsNak (planned kind a nothing) → ⊥) → ((r : Row) → IsAnothers q a r → ⊥) → IsGuarded q set outcome
given q kind row a set (planned its b content) h good no_nak fair = record {
  good = λ r e. good r (sym h.0 ∙ e);
  nak = λ e. absurd (no_nak (nak_of kind (subst (λ (k : PlanKind). IsNak (planned k b content)) h.1.0 e)));
  fair = λ c r held g. fair r (subst (λ (x : ℕ). IsAnothers q x r) (sym (at its c g) ∙ h.1.1) held);
} where
  nak_of : (k : PlanKind) → IsNak (planned k b content) → IsNak (planned k a nothing)
  nak_of kinds.Offer e = e
  nak_of kinds.Ack e = e
  nak_of kinds.Nak e = e
  nak_of kinds.InformAck e = e

  at : (k : PlanKind) (c : ℕ) → Gives (planned k b content) c → b ≡ c
  at kinds.Offer c g = g
  at kinds.Ack c g = g
  at kinds.Nak c g = absurd g
  at kinds.InformAck c g = absurd g
given q kind row a set (quiet reason) h good no_nak fair = absurd h.1

-- the row of an offer, if there is one
offered_good : (q : Asking) (a : ℕ) (b : Bool) (r : Row) → (if b then None else Some (offered_row q a)) ≡ Some r → IsGood q r
offered_good q a true r e = absurd (none-some r e)
offered_good q a false r e = let same : offered_row q a ≡ r = cc in subst (IsGood q) same (good_offered q a)

offers : (q : Asking) (type : MessageType) (about : Option ℕ) (set : Option Row) (outcome : Outcome) → IsFounded q type about ends.Offer → Makes q about ends.Offer set outcome → IsGuarded q set outcome
offers q type None set outcome rests h = absurd h
offers q type (Some a) set outcome rests h =
    given q kinds.Offer (row_of_offer q a) a set outcome h (offered_good q a (leased_to q a)) (λ e. e)
    (λ r held. let choice = rests.1.2 in false≢true (sym (no_rank q rests.1.0 choice.rank a r held) ∙ choice.first.ranked))

leases : (q : Asking) (type : MessageType) (about : Option ℕ) (set : Option Row) (outcome : Outcome) → IsFounded q type about ends.Lease → Makes q about ends.Lease set outcome → IsGuarded q set outcome
leases q type None set outcome rests h = absurd h
leases q type (Some a) set outcome rests h =
    given q kinds.Ack (Some (leased_row q a)) a set outcome h (this_set q (Some (leased_row q a)) (leased_row q a) refl (good_leased q a)) (λ e. e)
    (λ r held. ⊎_elim (λ may. false≢true (sym (not_usable q rests.1.0 a r held) ∙ may)) (λ may. false≢true (sym (not_renewed q rests.1.0 a r held) ∙ may)) rests.1.2)

withholds : (q : Asking) (about : Option ℕ) (set : Option Row) (outcome : Outcome) → Makes q about ends.Withhold set outcome → IsGuarded q set outcome
withholds q None set outcome h = absurd h
withholds q (Some a) set outcome h = silent_set q set outcome reasons.Declined h.1 (this_set q set (declined_row q a) h.0 (good_declined q a))

releases : (q : Asking) (about : Option ℕ) (set : Option Row) (outcome : Outcome) → Makes q about ends.Release set outcome → IsGuarded q set outcome
releases q None set outcome h = absurd h
releases q (Some a) set outcome h = silent_set q set outcome reasons.Released h.1 (this_set q set (released_row q a) h.0 (good_released q a))

back_good : (q : Asking) (offer : Option ℕ) (set : Option Row) → set ≡ option_map (released_row q) offer → (r : Row) → set ≡ Some r → IsGood q r
back_good q None set is = no_row q set is
back_good q (Some a) set is = this_set q set (released_row q a) is (good_released q a)

ends_guarded : (q : Asking) (type : MessageType) (about : Option ℕ) (end : Ending) (set : Option Row) (outcome : Outcome) → IsFounded q type about end → Makes q about end set outcome → IsGuarded q set outcome
ends_guarded q type about ends.Offer set outcome rests h = offers q type about set outcome rests h
ends_guarded q type about ends.Lease set outcome rests h = leases q type about set outcome rests h
ends_guarded q type about ends.Nak set outcome rests h = none_given q kinds.Nak set 0 outcome h (λ b content g. g)
ends_guarded q type about ends.GiveBack set outcome rests h = silent_set q set outcome reasons.OtherServer h.1 (back_good q h.0.0 set h.0.2)
ends_guarded q type about ends.Withhold set outcome rests h = withholds q about set outcome h
ends_guarded q type about ends.Release set outcome rests h = releases q about set outcome h
ends_guarded q type about ends.Inform set outcome rests h = none_given q kinds.InformAck set 0 outcome h (λ b content g. g)
ends_guarded q type about (ends.Quiet reason) set outcome rests h = silent_set q set outcome reason h.1 (no_row q set h.0)

pub guarded : (q : Asking) (type : MessageType) (set : Option Row) (outcome : Outcome) → Sets q type set outcome → IsGuarded q set outcome
guarded q type set outcome h = ends_guarded q type h.address (ending q h.address (rule_of q type)) set outcome (founded q type h.address h.about) h.makes

-- the row that a message sets is set now
pub set_now : (q : Asking) (set : Option Row) (outcome : Outcome) → Does q set outcome → q.now < 2 ^ 40 → IsSound q.config → IfSome set (IsSetAt q.now)
set_now q None outcome does early times = tt
set_now q (Some row) outcome does early times =
    let good = (guarded q does.type (Some row) outcome does.sets).good row (λ i. Some row) in
    record { changed = good.changed; in_range = good.in_range early times }
