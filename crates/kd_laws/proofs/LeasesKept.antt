-- No address is for two clients at once: from a lease on, each step leaves the row of its address
-- to the client until the lifetime has passed, or the client gives it up, or leases it again for a
-- shorter time.
use Rattle.std.proofs.Common.{◌≡◌, ◌≢◌, ℕ, ◌+◌, ◌<◌, ◌≤◌, ◌==◌, nat_lt, Bool, true, false, List, [], ◌∷◌, Option, Some, None, ◌⊎◌, inl, inr, ⊎_elim, zero, suc, refl, sym, ap, ◌∙◌, subst, arith, if◌then◌else◌}
use Rattle.std.proofs.lemmas.Bool.{cases_Bool, eq-eqb, eqb-true, false_from_ne_true, false≢true, ltb-false, ltb-true}
use Rattle.std.proofs.lemmas.Option.{none-some, same_Some}
use Rattle.std.specs.Cmp.Lexicographic.{bytes_decides}
use Rattle.std.specs.List.{slice_get}
use Rattle.kd_config.specs.declared.times.Times.{Times}
use Rattle.kd_event.specs.declared.reason.Reason.{Reason}
use Rattle.kd_lease.specs.Change.{after, asked_for}
use Rattle.kd_lease.specs.Choice.{Asking, live_row}
use Rattle.kd_lease.specs.Client.{identity_under}
use Rattle.kd_lease.specs.Laws.{EndsAreFounded, HeldHasNoRank, HeldIsNotGiven, HeldIsNotUsable, OneMembership, SetsNow}
use Rattle.kd_lease.specs.Plan.{Content, Outcome}
use Rattle.kd_lease.specs.Plan.Outcome.{planned, quiet}
use Rattle.kd_lease.specs.Kept.{bound_state}
use Rattle.kd_lease.specs.Rules.{Sets, granted_times, leased_row}
use Rattle.kd_lease.specs.declared.plan.PlanKind.TheVariants as kinds
use Rattle.kd_options.specs.Kind.{type_number}
use Rattle.kd_options.specs.declared.kind.MessageType.{MessageType}
use Rattle.kd_options.specs.declared.kind.MessageType.TheVariants as types
use Rattle.kd_rows.specs.Laws.{GetOfSet, LatestOfSet}
use Rattle.kd_rows.specs.Table.{belongs_to, latest_of, row_at, with_row}
use Rattle.kd_rows.specs.declared.row.Row.{Row}
use Rattle.kd_rows.specs.declared.row.State.TheVariants as states
use Rattle.kd_laws.specs.NoOverlap.{ChangesTo, GivesTo, GivesUp, GivesUpBetween, Happens, LeaseHistory, GivesLease, GivesOffer, LastsFor, LeaseStep, NoOverlapAcross, Renews, ShortenedBetween, now_of}
use Rattle.kd_laws.proofs.LiveLeases.{IsGivingUp, IsLease, MayReplace, acked, may_set}
use Rattle.kd_laws.proofs.Ruled.{Ruled, ruled}
use Rattle.kd_laws.proofs.Lasting.{granted_once}

-- the row of an address is the client's, bound, and ends no earlier than this
record Holds (rows : List Row) (a : ℕ) (client : List ℕ) (ends : ℕ) : Type 0 where
  row : Row
  there : row_at rows a ≡ Some row
  own : row.client ≡ client
  bound : row.state ≡ states.Bound
  lasts : ends ≤ row.ends

-- an address that was leased at this time, for some lifetime, is still the client's, or the
-- lifetime has passed
record IsSafe (rows : List Row) (a : ℕ) (client : List ℕ) (start time : ℕ) : Type 0 where
  late : start ≤ latest_of rows
  safe : Holds rows a client (start + time) ⊎ (start + time ≤ latest_of rows)

-- a message of the client, which gives up an address, sets this row there
abbrev GivesUpBy : Asking → MessageType → Row → List ℕ → ℕ → Type 0
GivesUpBy q type row client a = (q.client ≡ client) × IsGivingUp type × (row_at (with_row row q.rows) a ≢ row_at q.rows a)

-- a REQUEST of the client leases an address again, for less than a lifetime, and sets this row
record ShortensBy (q : Asking) (type : MessageType) (row : Row) (client : List ℕ) (a time : ℕ) : Type 0 where
  its : q.client ≡ client
  request : type ≡ types.Request
  renewed : row ≡ leased_row q a
  shorter : (granted_times q a).lifetime < time

-- one of the two
abbrev LoosensBy : Asking → MessageType → Row → List ℕ → ℕ → ℕ → Type 0
LoosensBy q type row client a time = GivesUpBy q type row client a ⊎ ShortensBy q type row client a time

-- in a step the client leases an address, which was leased at some time, again for less than a
-- lifetime; then it is safe for that long
record Shortens (e : LeaseStep) (client : List ℕ) (a start time : ℕ) : Type 0 where
  fewer : ℕ
  renews : Renews e client a fewer
  later : start ≤ now_of e
  shorter : fewer < time
  safe : IsSafe e.after a client (now_of e) fewer

-- what a step may do to an address that is safe
abbrev Loosens : LeaseStep → List ℕ → ℕ → ℕ → ℕ → Type 0
Loosens e client a start time = GivesUp e client a ⊎ Shortens e client a start time

-- before a position of a history there is a step in which the client gives up the address
record GivesUpBefore (es : List LeaseStep) (j : ℕ) (client : List ℕ) (a : ℕ) : Type 0 where
  place : ℕ
  before : place < j
  step : LeaseStep
  there : slice_get es place ≡ Some step
  gives_up : GivesUp step client a

-- or one in which it leases the address again for less than a lifetime, and that lease has ended by
-- this time
record ShortenedBefore (es : List LeaseStep) (j : ℕ) (client : List ℕ) (a start time moment : ℕ) : Type 0 where
  place : ℕ
  before : place < j
  step : LeaseStep
  there : slice_get es place ≡ Some step
  fewer : ℕ
  renews : Renews step client a fewer
  later : start ≤ now_of step
  shorter : fewer < time
  past : now_of step + fewer ≤ moment

-- one of the two
abbrev LoosenedBefore : List LeaseStep → ℕ → List ℕ → ℕ → ℕ → ℕ → ℕ → Type 0
LoosenedBefore es j client a start time moment = GivesUpBefore es j client a ⊎ ShortenedBefore es j client a start time moment

-- the same after one more step
next_given_up : (e : LeaseStep) (es : List LeaseStep) (j : ℕ) (client : List ℕ) (a : ℕ) → GivesUpBefore es j client a → GivesUpBefore (e ∷ es) (suc j) client a
next_given_up e es j client a g = let b = g.before in record { place = suc g.place; before = omega arith; step = g.step; there = g.there; gives_up = g.gives_up }

next_shortened : (e : LeaseStep) (es : List LeaseStep) (j : ℕ) (client : List ℕ) (a start since time less moment : ℕ) → start ≤ since → less ≤ time
    → ShortenedBefore es j client a since less moment → ShortenedBefore (e ∷ es) (suc j) client a start time moment
next_shortened e es j client a start since time less moment later shorter g =
    let b = g.before in
    let l = g.later in
    let s = g.shorter in
    record { place = suc g.place; before = omega arith; step = g.step; there = g.there; fewer = g.fewer; renews = g.renews; later = omega arith; shorter = omega arith; past = g.past }

next : (e : LeaseStep) (es : List LeaseStep) (j : ℕ) (client : List ℕ) (a start since time less moment : ℕ) → start ≤ since → less ≤ time
    → LoosenedBefore es j client a since less moment → LoosenedBefore (e ∷ es) (suc j) client a start time moment
next e es j client a start since time less moment later shorter (inl g) = inl (next_given_up e es j client a g)
next e es j client a start since time less moment later shorter (inr g) = inr (next_shortened e es j client a start since time less moment later shorter g)

-- given the laws of rows and of the rules
module _ (get_of_set : GetOfSet) (latest_of_set : LatestOfSet) (sets_now : SetsNow) (founded : EndsAreFounded) (no_rank : HeldHasNoRank) (not_usable : HeldIsNotUsable) (not_given : HeldIsNotGiven) (one_membership : OneMembership) where
  -- what is read at the address of a row that is set, and elsewhere
  read_here : (row : Row) (rows : List Row) (a : ℕ) → (row.address == a) ≡ true → row_at (with_row row rows) a ≡ Some row
  read_here row rows a e = get_of_set row rows a ∙ ap (λ (b : Bool). if b then Some row else row_at rows a) e

  read_there : (row : Row) (rows : List Row) (a : ℕ) → (row.address == a) ≡ false → row_at (with_row row rows) a ≡ row_at rows a
  read_there row rows a e = get_of_set row rows a ∙ ap (λ (b : Bool). if b then Some row else row_at rows a) e

  -- a row that is set in place of a live lease leaves it safe, or gives it up, or shortens it
  replaced : (q : Asking) (type : MessageType) (row held : Row) (a : ℕ) (client : List ℕ) (start time : ℕ) → row.address ≡ a → start ≤ q.now
      → row_at q.rows a ≡ Some held → held.client ≡ client → held.state ≡ states.Bound → MayReplace q type row held
      → Holds (with_row row q.rows) a client (start + time) ⊎ LoosensBy q type row client a time
  replaced q type row held a client start time here since there own bound may = ⊎_elim (λ e. leases e (cases_Bool (nat_lt (granted_times q a).lifetime time))) gives_up may.how where
    its : q.client ≡ client
    its = sym ((bytes_decides held.client q.client).0 may.own) ∙ own

    read : row_at (with_row row q.rows) a ≡ Some row
    read = read_here row q.rows a (eq-eqb row.address a here)

    leases : (type ≡ types.Request) × (row ≡ leased_row q row.address) → (nat_lt (granted_times q a).lifetime time ≡ true) ⊎ (nat_lt (granted_times q a).lifetime time ≡ false)
        → Holds (with_row row q.rows) a client (start + time) ⊎ LoosensBy q type row client a time
    leases e (inl less) = inr (inr (record { its = its; request = e.0; renewed = e.1 ∙ ap (leased_row q) here; shorter = ltb-true _ _ less }))
    leases e (inr no_less) =
        let ends : row.ends ≡ q.now + (granted_times q a).lifetime = ap (λ (r : Row). r.ends) (e.1 ∙ ap (leased_row q) here) in
        let long : time ≤ (granted_times q a).lifetime = ltb-false _ _ no_less in
        inl (record { row = row; there = read; own = ap (λ (r : Row). r.client) e.1 ∙ its; bound = ap (λ (r : Row). r.state) e.1; lasts = omega arith })

    gives_up : IsGivingUp type × (bound_state row.state ≡ false) → Holds (with_row row q.rows) a client (start + time) ⊎ LoosensBy q type row client a time
    gives_up g = inr (inl (
      its,
      g.0,
      λ same.
          let e : row ≡ held = same_Some row held (sym read ∙ same ∙ there) in
          false≢true (sym g.1 ∙ ap (λ (r : Row). bound_state r.state) e ∙ ap bound_state bound),
    ))

  -- a row that a message sets leaves an address safe, or gives it up, or shortens its lease
  set_keeps : (q : Asking) (type : MessageType) (row : Row) (a : ℕ) (client : List ℕ) (start time : ℕ) → row.changed ≡ q.now → latest_of q.rows ≤ q.now
      → ((held : Row) → IsLease q row.address held → MayReplace q type row held)
      → IsSafe q.rows a client start time
      → IsSafe (with_row row q.rows) a client start time ⊎ LoosensBy q type row client a time
  set_keeps q type row a client start time changed late may safe = ⊎_elim holds (λ past. passed (omega arith)) safe.safe where
    latest : latest_of (with_row row q.rows) ≡ q.now
    latest = latest_of_set row q.rows (omega arith) ∙ changed

    since : start ≤ latest_of (with_row row q.rows)
    since = let h = safe.late in omega (arith, latest)

    passed : start + time ≤ q.now → IsSafe (with_row row q.rows) a client start time ⊎ LoosensBy q type row client a time
    passed past = inl (record { late = since; safe = inr (omega (arith, latest)) })

    live : (h : Holds q.rows a client (start + time)) → (row.address == a) ≡ true → (live_row q.now h.row ≡ true) ⊎ (live_row q.now h.row ≡ false)
        → IsSafe (with_row row q.rows) a client start time ⊎ LoosensBy q type row client a time
    live h here (inr ended) = let e : h.row.ends ≤ q.now = ltb-false q.now h.row.ends ended in let l = h.lasts in passed (omega arith)
    live h here (inl lives) =
        let at : row.address ≡ a = eqb-true row.address a here in
        let m = may h.row (record { there = ap (row_at q.rows) at ∙ h.there; live = lives; bound = h.bound }) in
        ⊎_elim (λ kept. inl (record { late = since; safe = inl kept })) inr
        (replaced q type row h.row a client start time at (let g = safe.late in omega arith) h.there h.own h.bound m)

    at_row : (h : Holds q.rows a client (start + time)) → ((row.address == a) ≡ true) ⊎ ((row.address == a) ≡ false)
        → IsSafe (with_row row q.rows) a client start time ⊎ LoosensBy q type row client a time
    at_row h (inl here) = live h here (cases_Bool (live_row q.now h.row))
    at_row h (inr apart) = inl (record {
      late = since;
      safe = inl (record { row = h.row; there = read_there row q.rows a apart ∙ h.there; own = h.own; bound = h.bound; lasts = h.lasts });
    })

    holds : Holds q.rows a client (start + time) → IsSafe (with_row row q.rows) a client start time ⊎ LoosensBy q type row client a time
    holds h = at_row h (cases_Bool (row.address == a))

  -- the row of a new lease makes its address safe
  lease_safe : (q : Asking) (a : ℕ) (client : List ℕ) → q.client ≡ client → latest_of q.rows ≤ q.now → IsSafe (with_row (leased_row q a) q.rows) a client q.now (granted_times q a).lifetime
  lease_safe q a client its late =
      let latest : latest_of (with_row (leased_row q a) q.rows) ≡ q.now = latest_of_set (leased_row q a) q.rows (omega arith) in
      record {
        late = omega (arith, latest);
        safe = inl (record { row = leased_row q a; there = read_here (leased_row q a) q.rows a (eq-eqb a a refl); own = its; bound = refl; lasts = omega arith });
      }

  -- a step by the rules leaves an address safe, or its client gives it up or shortens its lease
  changed_keeps : (e : LeaseStep) (outcome : Outcome) (a : ℕ) (client : List ℕ) (start time : ℕ) → ChangesTo e outcome
      → IsSafe e.before a client start time → IsSafe e.after a client start time ⊎ Loosens e client a start time
  changed_keeps e outcome a client start time c safe = ⊎_elim (λ silent. same silent.0) by_rule (ruled e.config e.before c.names e.message (now_of e) c.set outcome c.decides) where
    same : c.set ≡ None → IsSafe e.after a client start time ⊎ Loosens e client a start time
    same none = inl (subst (λ (rows : List Row). IsSafe rows a client start time) (sym (c.becomes ∙ ap (after e.before) none)) safe)

    given_up : (r : Ruled e.config e.before c.names e.message (now_of e) c.set outcome) (row : Row) → e.after ≡ with_row row e.before
        → GivesUpBy (asked_for e.config e.before c.names e.message (now_of e) r.client) r.does.type row client a → GivesUp e client a
    given_up r row becomes g = record {
      by = r.by ∙ ap Some g.0;
      kind = ⊎_elim (λ t. inl (sym r.does.is ∙ ap type_number t)) (λ t. inr (sym r.does.is ∙ ap type_number t)) g.1;
      changed = λ back. g.2 (ap (λ (rows : List Row). row_at rows a) (sym becomes) ∙ back);
    }

    shortened : (r : Ruled e.config e.before c.names e.message (now_of e) c.set outcome) (row : Row) → e.after ≡ with_row row e.before
        → ShortensBy (asked_for e.config e.before c.names e.message (now_of e) r.client) r.does.type row client a time → Shortens e client a start time
    shortened r row becomes g =
        let q = asked_for e.config e.before c.names e.message (now_of e) r.client in
        let leased : e.after ≡ with_row (leased_row q a) e.before = becomes ∙ ap (λ (x : Row). with_row x e.before) g.renewed in
        let read : row_at e.after a ≡ Some (leased_row q a) = ap (λ (rows : List Row). row_at rows a) leased ∙ read_here (leased_row q a) e.before a (eq-eqb a a refl) in
        let seconds = (granted_times q a).lifetime in
        record {
          fewer = seconds;
          renews = record {
            by = r.by ∙ ap Some g.its;
            lasts = record { times = granted_times q a; granted = record { names = c.names; held = c.held; client = r.client; by = r.by; are = refl }; is = refl };
            request = sym r.does.is ∙ ap type_number g.request;
            row = read ∙ ap (λ (who : List ℕ). Some (record { address = a; client = who; state = states.Bound; changed = now_of e; ends = now_of e + seconds })) g.its;
          };
          later = let l = safe.late in omega arith;
          shorter = g.shorter;
          safe = subst (λ (rows : List Row). IsSafe rows a client (now_of e) seconds) (sym leased) (lease_safe q a client g.its (omega arith));
        }

    set_row : (r : Ruled e.config e.before c.names e.message (now_of e) c.set outcome) (row : Row) → c.set ≡ Some row → IsSafe e.after a client start time ⊎ Loosens e client a start time
    set_row r row is =
        let q = asked_for e.config e.before c.names e.message (now_of e) r.client in
        let changed : row.changed ≡ q.now = sets_now q r.does.type row outcome (subst (λ (o : Option Row). Sets q r.does.type o outcome) is r.does.sets) in
        let becomes : e.after ≡ with_row row e.before = c.becomes ∙ ap (after e.before) is in
        ⊎_elim (λ s. inl (subst (λ (rows : List Row). IsSafe rows a client start time) (sym becomes) s)) (λ l. inr (⊎_elim (λ g. inl (given_up r row becomes g)) (λ s. inr (shortened r row becomes s)) l))
        (set_keeps q r.does.type row a client start time changed (omega arith) (may_set founded no_rank not_usable q r.does.type c.set outcome r.does.sets row is) safe)

    by_set : (r : Ruled e.config e.before c.names e.message (now_of e) c.set outcome) (o : Option Row) → c.set ≡ o → IsSafe e.after a client start time ⊎ Loosens e client a start time
    by_set r None is = same is
    by_set r (Some row) is = set_row r row is

    by_rule : Ruled e.config e.before c.names e.message (now_of e) c.set outcome → IsSafe e.after a client start time ⊎ Loosens e client a start time
    by_rule r = by_set r c.set refl

  -- so does a step, stopped or not
  kept : (e : LeaseStep) (o : Option Outcome) (a : ℕ) (client : List ℕ) (start time : ℕ) → Happens e o
      → IsSafe e.before a client start time → IsSafe e.after a client start time ⊎ Loosens e client a start time
  kept e (Some outcome) a client start time h safe = changed_keeps e outcome a client start time h safe
  kept e None a client start time (inl same) safe = inl (subst (λ (rows : List Row). IsSafe rows a client start time) (sym same) safe)
  kept e None a client start time (inr h) safe = changed_keeps e h.0 a client start time h.1 safe

  -- a step that leases an address leaves it safe
  leased_safe : (e : LeaseStep) (a seconds : ℕ) (client : List ℕ) → Happens e e.outcome → GivesLease e client a → LastsFor e a seconds → IsSafe e.after a client (now_of e) seconds
  leased_safe e a seconds client happens l lasts = ⊎_elim silent by_rule (ruled e.config e.before c.names e.message (now_of e) c.set (planned kinds.Ack a l.content) c.decides) where
    c : ChangesTo e (planned kinds.Ack a l.content)
    c = subst (Happens e) l.ack happens

    silent : (c.set ≡ None) × ((reason : Reason) × (planned kinds.Ack a l.content ≡ quiet reason)) → IsSafe e.after a client (now_of e) seconds
    silent s = let h = s.1.1 in cc

    by_rule : Ruled e.config e.before c.names e.message (now_of e) c.set (planned kinds.Ack a l.content) → IsSafe e.after a client (now_of e) seconds
    by_rule r =
        let q = asked_for e.config e.before c.names e.message (now_of e) r.client in
        let is : c.set ≡ Some (leased_row q a) = acked q r.does.type c.set a l.content r.does.sets in
        let becomes : e.after ≡ with_row (leased_row q a) e.before = c.becomes ∙ ap (after e.before) is in
        let same = granted_once one_membership e.config e.before e.message (now_of e) a (granted_times q a) lasts.times
        (record { names = c.names; held = c.held; client = r.client; by = r.by; are = refl }) lasts.granted in
        subst (λ (rows : List Row). IsSafe rows a client (now_of e) seconds) (sym becomes)
        (subst (λ (time : ℕ). IsSafe (with_row (leased_row q a) q.rows) a client q.now time) (ap (λ (times : Times). times.lifetime) same ∙ sym lasts.is)
        (lease_safe q a client (same_Some r.client client (sym r.by ∙ l.by)) (omega arith)))

  -- a reply gives an address of a client to another only when the lifetime has passed
  given_by : (f : LeaseStep) (a : ℕ) (client other : List ℕ) (start time : ℕ) (outcome : Outcome) (content : Content) → (outcome ≡ planned kinds.Offer a content) ⊎ (outcome ≡ planned kinds.Ack a content)
      → (c : ChangesTo f outcome) (r : Ruled f.config f.before c.names f.message (now_of f) c.set outcome)
      → identity_under f.config f.message ≡ Some other → other ≢ client → Holds f.before a client (start + time) → start + time ≤ now_of f
  given_by f a client other start time outcome content gives c r by apart h = by_live (cases_Bool (live_row (now_of f) h.row)) where
    others : belongs_to r.client h.row ≡ false
    others = false_from_ne_true (belongs_to r.client h.row) (λ own.
        apart (same_Some other r.client (sym by ∙ r.by) ∙ sym ((bytes_decides h.row.client r.client).0 own) ∙ h.own))

    unfair : live_row (now_of f) h.row ≡ true → (outcome ≡ planned kinds.Offer a content) ⊎ (outcome ≡ planned kinds.Ack a content) → ⊥
    unfair live (inl e) =
        not_given (asked_for f.config f.before c.names f.message (now_of f) r.client) r.does.type c.set a content h.row (record { there = h.there; live = live; other = others })
        (inl (subst (λ (y : Outcome). Sets (asked_for f.config f.before c.names f.message (now_of f) r.client) r.does.type c.set y) e r.does.sets))
    unfair live (inr e) =
        not_given (asked_for f.config f.before c.names f.message (now_of f) r.client) r.does.type c.set a content h.row (record { there = h.there; live = live; other = others })
        (inr (subst (λ (y : Outcome). Sets (asked_for f.config f.before c.names f.message (now_of f) r.client) r.does.type c.set y) e r.does.sets))

    by_live : (live_row (now_of f) h.row ≡ true) ⊎ (live_row (now_of f) h.row ≡ false) → start + time ≤ now_of f
    by_live (inl live) = absurd (unfair live gives)
    by_live (inr ended) = let e : h.row.ends ≤ now_of f = ltb-false (now_of f) h.row.ends ended in let l = h.lasts in omega arith

  -- so does an OFFER
  offered_late : (f : LeaseStep) (a : ℕ) (client other : List ℕ) (start time : ℕ) → Happens f f.outcome → GivesOffer f other a → other ≢ client → Holds f.before a client (start + time) → start + time ≤ now_of f
  offered_late f a client other start time happens o apart h = ⊎_elim silent by_rule (ruled f.config f.before c.names f.message (now_of f) c.set (planned kinds.Offer a o.content) c.decides) where
    c : ChangesTo f (planned kinds.Offer a o.content)
    c = subst (Happens f) o.offer happens

    silent : (c.set ≡ None) × ((reason : Reason) × (planned kinds.Offer a o.content ≡ quiet reason)) → start + time ≤ now_of f
    silent s = let e = s.1.1 in absurd cc

    by_rule : Ruled f.config f.before c.names f.message (now_of f) c.set (planned kinds.Offer a o.content) → start + time ≤ now_of f
    by_rule r = given_by f a client other start time (planned kinds.Offer a o.content) o.content (inl refl) c r o.by apart h

  -- and so does an ACK
  leased_late : (f : LeaseStep) (a : ℕ) (client other : List ℕ) (start time : ℕ) → Happens f f.outcome → GivesLease f other a → other ≢ client → Holds f.before a client (start + time) → start + time ≤ now_of f
  leased_late f a client other start time happens l apart h = ⊎_elim silent by_rule (ruled f.config f.before c.names f.message (now_of f) c.set (planned kinds.Ack a l.content) c.decides) where
    c : ChangesTo f (planned kinds.Ack a l.content)
    c = subst (Happens f) l.ack happens

    silent : (c.set ≡ None) × ((reason : Reason) × (planned kinds.Ack a l.content ≡ quiet reason)) → start + time ≤ now_of f
    silent s = let e = s.1.1 in absurd cc

    by_rule : Ruled f.config f.before c.names f.message (now_of f) c.set (planned kinds.Ack a l.content) → start + time ≤ now_of f
    by_rule r = given_by f a client other start time (planned kinds.Ack a l.content) l.content (inr refl) c r l.by apart h

  -- a step gives a safe address to another only when the lifetime has passed
  given_late : (f : LeaseStep) (a : ℕ) (client other : List ℕ) (start time : ℕ) → Happens f f.outcome → GivesTo f other a → other ≢ client
      → IsSafe f.before a client start time → start + time ≤ now_of f
  given_late f a client other start time happens gives apart safe = ⊎_elim (λ h. by h gives) (λ (past : start + time ≤ latest_of f.before). omega arith) safe.safe where
    by : Holds f.before a client (start + time) → GivesTo f other a → start + time ≤ now_of f
    by h (inl o) = offered_late f a client other start time happens o apart h
    by h (inr l) = leased_late f a client other start time happens l apart h

  -- in a history from rows in which an address is safe, it is given to another only when the
  -- lifetime has passed, or its client has given it up or shortened its lease
  onward : (rows : List Row) (es : List LeaseStep) (a : ℕ) (client other : List ℕ) (start time : ℕ) (j : ℕ) (f : LeaseStep)
      → LeaseHistory rows es → IsSafe rows a client start time → slice_get es j ≡ Some f → GivesTo f other a → other ≢ client
      → (start + time ≤ now_of f) ⊎ LoosenedBefore es j client a start time (now_of f)
  onward rows [] a client other start time j f history safe is gives apart = absurd (none-some f is)
  onward rows (e ∷ es) a client other start time zero f history safe is gives apart =
      let same : e ≡ f = same_Some e f is in
      inl (subst (λ (g : LeaseStep). start + time ≤ now_of g) same
      (given_late e a client other start time history.1 (subst (λ (g : LeaseStep). GivesTo g other a) (sym same) gives) apart
      (subst (λ (r : List Row). IsSafe r a client start time) (sym history.0) safe)))
  onward rows (e ∷ es) a client other start time (suc j) f history safe is gives apart =
      ⊎_elim
      (λ s. on (onward e.after es a client other start time j f history.2 s is gives apart))
      (loosened (λ fewer s. onward e.after es a client other (now_of e) fewer j f history.2 s is gives apart))
      (kept e e.outcome a client start time history.1 (subst (λ (r : List Row). IsSafe r a client start time) (sym history.0) safe)) where
        on : (start + time ≤ now_of f) ⊎ LoosenedBefore es j client a start time (now_of f) → (start + time ≤ now_of f) ⊎ LoosenedBefore (e ∷ es) (suc j) client a start time (now_of f)
        on (inl past) = inl past
        on (inr l) = inr (next e es j client a start start time time (now_of f) (omega arith) (omega arith) l)

        shortened : (s : Shortens e client a start time) → (now_of e + s.fewer ≤ now_of f) ⊎ LoosenedBefore es j client a (now_of e) s.fewer (now_of f)
            → (start + time ≤ now_of f) ⊎ LoosenedBefore (e ∷ es) (suc j) client a start time (now_of f)
        shortened s (inl past) = inr (inr (record { place = zero; before = omega arith; step = e; there = refl; fewer = s.fewer; renews = s.renews; later = s.later; shorter = s.shorter; past = past }))
        shortened s (inr l) = let less = s.shorter in inr (next e es j client a start (now_of e) time s.fewer (now_of f) s.later (omega arith) l)

        loosened : ((fewer : ℕ) → IsSafe e.after a client (now_of e) fewer → (now_of e + fewer ≤ now_of f) ⊎ LoosenedBefore es j client a (now_of e) fewer (now_of f))
            → Loosens e client a start time → (start + time ≤ now_of f) ⊎ LoosenedBefore (e ∷ es) (suc j) client a start time (now_of f)
        loosened rest (inl g) = inr (inl (record { place = zero; before = omega arith; step = e; there = refl; gives_up = g }))
        loosened rest (inr s) = shortened s (rest s.fewer s.safe)

  -- what holds between two positions of a history, from what holds before one
  abbrev Loosened : List LeaseStep → ℕ → ℕ → LeaseStep → List ℕ → ℕ → ℕ → ℕ → Type 0
  Loosened es i j e client a seconds moment = GivesUpBetween es i j client a ⊎ ShortenedBetween es i j e client a seconds moment

  -- from the step of the lease on
  from_lease : (e : LeaseStep) (es : List LeaseStep) (j : ℕ) (client : List ℕ) (a seconds moment : ℕ) → LoosenedBefore es j client a (now_of e) seconds moment
      → Loosened (e ∷ es) zero (suc j) e client a seconds moment
  from_lease e es j client a seconds moment (inl g) =
      let b = g.before in
      inl (record { place = suc g.place; after = omega arith; before = omega arith; step = g.step; there = g.there; gives_up = g.gives_up })
  from_lease e es j client a seconds moment (inr g) =
      let b = g.before in
      inr (record { place = suc g.place; after = omega arith; before = omega arith; step = g.step; there = g.there; fewer = g.fewer; renews = g.renews; later = g.later; shorter = g.shorter; past = g.past })

  -- after one more step at the start
  moved : (x : LeaseStep) (es : List LeaseStep) (i j : ℕ) (e : LeaseStep) (client : List ℕ) (a seconds moment : ℕ) → Loosened es i j e client a seconds moment
      → Loosened (x ∷ es) (suc i) (suc j) e client a seconds moment
  moved x es i j e client a seconds moment (inl g) =
      let l = g.after in
      let b = g.before in
      inl (record { place = suc g.place; after = omega arith; before = omega arith; step = g.step; there = g.there; gives_up = g.gives_up })
  moved x es i j e client a seconds moment (inr g) =
      let l = g.after in
      let b = g.before in
      inr (record { place = suc g.place; after = omega arith; before = omega arith; step = g.step; there = g.there; fewer = g.fewer; renews = g.renews; later = g.later; shorter = g.shorter; past = g.past })

  -- in a history from any rows, an address that was leased is given to another only then
  none_overlap : (rows : List Row) (es : List LeaseStep) (i j : ℕ) (e f : LeaseStep) (client other : List ℕ) (a seconds : ℕ)
      → LeaseHistory rows es → i < j → slice_get es i ≡ Some e → slice_get es j ≡ Some f → GivesLease e client a → LastsFor e a seconds → GivesTo f other a → other ≢ client
      → (now_of e + seconds ≤ now_of f) ⊎ Loosened es i j e client a seconds (now_of f)
  none_overlap rows [] i j e f client other a seconds history before is_e is_f leases lasts gives apart = absurd (none-some e is_e)
  none_overlap rows (x ∷ es) i zero e f client other a seconds history before is_e is_f leases lasts gives apart = absurd (omega arith)
  none_overlap rows (x ∷ es) zero (suc j) e f client other a seconds history before is_e is_f leases lasts gives apart =
      let same : x ≡ e = same_Some x e is_e in
      let safe = leased_safe x a seconds client history.1 (subst (λ (g : LeaseStep). GivesLease g client a) (sym same) leases) (subst (λ (g : LeaseStep). LastsFor g a seconds) (sym same) lasts) in
      subst (λ (g : LeaseStep). (now_of g + seconds ≤ now_of f) ⊎ Loosened (x ∷ es) zero (suc j) g client a seconds (now_of f)) same
      (⊎_elim inl (λ l. inr (from_lease x es j client a seconds (now_of f) l))
      (onward x.after es a client other (now_of x) seconds j f history.2 safe is_f gives apart))
  none_overlap rows (x ∷ es) (suc i) (suc j) e f client other a seconds history before is_e is_f leases lasts gives apart =
      ⊎_elim inl (λ l. inr (moved x es i j e client a seconds (now_of f) l))
      (none_overlap x.after es i j e f client other a seconds history.2 (omega arith) is_e is_f leases lasts gives apart)

  -- the law
  pub across : NoOverlapAcross
  across rows es history i j e f client a seconds lasts g = none_overlap rows es i j e f client g.other a seconds history g.before g.first g.second g.leases lasts g.gives g.apart
