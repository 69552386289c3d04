-- What is sent to clients is what the steps of a history give them, so no two replies overlap.
use Rattle.std.proofs.Common.{◌≡◌, ◌⊎◌, inl, inr, ⊎_elim, ℕ, zero, suc, ◌+◌, ◌*◌, ◌^◌, ◌<◌, Bool, List, [], ◌∷◌, ◌++◌, Option, Some, None, Ok, refl, sym, ap, ◌∙◌, subst, arith, append_assoc, slice_index}
use Rattle.std.proofs.lemmas.Nat.{from_be_bytes-to_be_bytes_4}
use Rattle.std.proofs.lemmas.Option.{none-some, same_Some}
use Rattle.std.specs.Int.{bytes_high_first}
use Rattle.std.specs.List.{slice_get}
use Rattle.byteorder.specs.Endian.{big_bytes}
use Rattle.kd_config.specs.Configuration.{Configuration}
use Rattle.kd_config.specs.Sound.{IsSound}
use Rattle.kd_config.specs.declared.times.Times.{Times}
use Rattle.kd_event.specs.declared.destination.Destination.{Destination}
use Rattle.kd_event.specs.declared.event.Response.{Response}
use Rattle.kd_event.specs.declared.event.Response.TheVariants as responses
use Rattle.kd_event.specs.declared.ports.Ports.{Ports}
use Rattle.kd_event.specs.declared.reason.Reason.TheVariants as reasons
use Rattle.kd_laws.specs.Lives.{AreSteps, AreStepsOfAll, IsAnswerOf, IsIdle, IsStepOf, Life, LivesAreHistories, Opening, Report, WasHistory, first_rows, reports}
use Rattle.kd_laws.specs.NoOverlap.{GivesLease, GivesOffer, GivesTo, GivesUpBetween, Happens, LastsFor, LeaseHistory, LeaseStep, NoOverlapAcross, Regives, ShortenedBetween, now_of}
use Rattle.kd_laws.specs.Granted.{AreGranted}
use Rattle.kd_laws.specs.Replies.{RepliesReadBack, lifetime_told}
use Rattle.kd_laws.specs.Sent.{Exchange, IsAmong, IsAnsweredBy, IsGivenUp, IsShortened, IsSomeStep, NeverOverlapBy, NoReplyOverlaps, exchanges_of_all, exchanges_under}
use Rattle.kd_laws.proofs.LiveLeases.{requested_if}
use Rattle.kd_laws.proofs.OneStep.{one_message}
use Rattle.kd_laws.proofs.Ruled.{IsSilent, Ruled, ruled}
use Rattle.kd_lease.proofs.Lifetimes.{granted_bounded}
use Rattle.kd_lease.specs.Change.{Changes, asked_for}
use Rattle.kd_lease.specs.Client.{identity_under, kind_of}
use Rattle.kd_lease.specs.Laws.{EndsAreFounded}
use Rattle.kd_lease.specs.Plan.{Content, Outcome}
use Rattle.kd_lease.specs.Plan.Outcome.{planned, quiet}
use Rattle.kd_lease.specs.ReplyOf.{header_of_reply}
use Rattle.kd_lease.specs.ReplyOptions.{plan_type}
use Rattle.kd_lease.specs.declared.booting.BootFields.{BootFields}
use Rattle.kd_lease.specs.declared.plan.PlanKind.{PlanKind}
use Rattle.kd_lease.specs.declared.plan.PlanKind.TheVariants as kinds
use Rattle.kd_options.specs.Joined.{value_of}
use Rattle.kd_options.specs.Kind.{type_number}
use Rattle.kd_options.specs.Message.{IsMessage}
use Rattle.kd_options.specs.declared.kind.MessageType.{MessageType}
use Rattle.kd_options.specs.declared.kind.MessageType.TheVariants as types
use Rattle.kd_rows.specs.declared.row.Row.{Row}
use Rattle.kd_server.specs.Step.{Responds}
use Rattle.kd_wire.specs.declared.header.Header.{Header}

-- an event is a step under a configuration that obeys all limits
record IsSoundStep (x : Exchange) (e : LeaseStep) : Type 0 where
  ports : Ports
  is : IsStepOf x.config ports x.report e
  sound : IsSound x.config

-- the steps are the events at which something happens, in their order
Follow : List Exchange → List LeaseStep → Type 0
Follow [] es = es ≡ []
Follow (x ∷ xs) [] = IsIdle x.report.in_batch x.report.event x.report.answer × Follow xs []
Follow (x ∷ xs) (e ∷ es) =
    (IsIdle x.report.in_batch x.report.event x.report.answer × Follow xs (e ∷ es)) ⊎ (IsSoundStep x e × Follow xs es)

-- an event at which nothing happens, before others
idle_first : (r : Exchange) (rs : List Exchange) (es : List LeaseStep) → IsIdle r.report.in_batch r.report.event r.report.answer → Follow rs es → Follow (r ∷ rs) es
unfolding Follow
idle_first r rs [] idle f = (idle, f)
idle_first r rs (e ∷ es) idle f = inl (idle, f)

-- events and their steps, before others
follow_then : (rs qs : List Exchange) (es fs : List LeaseStep) → Follow rs es → Follow qs fs → Follow (rs ++ qs) (es ++ fs)
unfolding Follow
follow_then [] qs es fs none f = subst (λ (l : List LeaseStep). Follow qs (l ++ fs)) (sym none) f
follow_then (r ∷ rs) qs [] fs first f = idle_first r (rs ++ qs) fs first.0 (follow_then rs qs [] fs first.1 f)
follow_then (r ∷ rs) qs (e ∷ es) fs (inl first) f = inl (first.0, follow_then rs qs (e ∷ es) fs first.1 f)
follow_then (r ∷ rs) qs (e ∷ es) fs (inr first) f = inr (first.0, follow_then rs qs es fs first.1 f)

-- the steps of an opening whose configuration obeys all limits
sound_steps : (config : Configuration) (ports : Ports) → IsSound config → (rs : List Report) (es : List LeaseStep) → AreSteps config ports rs es → Follow (exchanges_under config rs) es
unfolding Follow
sound_steps config ports sound [] es are = are
sound_steps config ports sound (r ∷ rs) [] are = (are.0, sound_steps config ports sound rs [] are.1)
sound_steps config ports sound (r ∷ rs) (e ∷ es) (inl idle) = inl (idle.0, sound_steps config ports sound rs (e ∷ es) idle.1)
sound_steps config ports sound (r ∷ rs) (e ∷ es) (inr step) =
    inr (record { ports = ports; is = step.0; sound = sound }, sound_steps config ports sound rs es step.1)

opening_steps : (o : Opening) (next : Option (List Row)) → WasHistory o next → (es : List LeaseStep) → AreSteps o.config o.ports (reports o.calls) es → Follow (exchanges_under o.config (reports o.calls)) es
unfolding Follow
opening_steps o next was es are = ⊎_elim
    (λ none. let rs : reports o.calls ≡ [] = ap reports none in
    subst (λ (l : List Report). Follow (exchanges_under o.config l) es) (sym rs) (subst (λ (l : List Report). AreSteps o.config o.ports l es) rs are))
    (λ sound. sound_steps o.config o.ports sound (reports o.calls) es are)
    was.sound

-- the steps of a life
life_steps : (life : List Opening) → Life life → (es : List LeaseStep) → AreStepsOfAll life es → Follow (exchanges_of_all life) es
unfolding Follow
life_steps [] is es are = are
life_steps (o ∷ []) is es are =
    subst (Follow (exchanges_under o.config (reports o.calls) ++ [])) (sym are.2) (follow_then (exchanges_under o.config (reports o.calls)) [] are.0 are.1 (opening_steps o None is are.0 are.3) are.4)
life_steps (o ∷ p ∷ os) is es are =
    subst (Follow (exchanges_under o.config (reports o.calls) ++ exchanges_of_all (p ∷ os))) (sym are.2)
    (follow_then (exchanges_under o.config (reports o.calls)) (exchanges_of_all (p ∷ os)) are.0 are.1 (opening_steps o (Some p.rows) is.0 are.0 are.3) (life_steps (p ∷ os) is.1 are.1 are.4))

-- a list that is not empty
filled : {A : Type 0} (front : List A) (x : A) (back : List A) → [] ≡ front ++ x ∷ back → ⊥
filled [] x back e = let h = e in absurd (cc)
filled (y ∷ front) x back e = let h = e in absurd (cc)

-- the steps before that of an event, its step, and those after it
record IsParted (rs : List Exchange) (r : Exchange) (qs : List Exchange) (es : List LeaseStep) : Type 0 where
  first : List LeaseStep
  step : LeaseStep
  rest : List LeaseStep
  all : es ≡ first ++ step ∷ rest
  before : Follow rs first
  at : IsSoundStep r step
  after : Follow qs rest

-- an event at which something happens has a step
parted : (rs : List Exchange) (r : Exchange) (qs : List Exchange) (es : List LeaseStep) → (IsIdle r.report.in_batch r.report.event r.report.answer → ⊥) → Follow (rs ++ r ∷ qs) es → IsParted rs r qs es
unfolding Follow
parted [] r qs [] busy f = absurd (busy f.0)
parted [] r qs (e ∷ es) busy (inl f) = absurd (busy f.0)
parted [] r qs (e ∷ es) busy (inr f) = record { first = []; step = e; rest = es; all = refl; before = refl; at = f.0; after = f.1 }
parted (x ∷ rs) r qs [] busy f = let p = parted rs r qs [] busy f.1 in absurd (filled p.first p.step p.rest p.all)
parted (x ∷ rs) r qs (e ∷ es) busy (inl f) =
    let p = parted rs r qs (e ∷ es) busy f.1 in
    record { first = p.first; step = p.step; rest = p.rest; all = p.all; before = idle_first x rs p.first f.0 p.before; at = p.at; after = p.after }
parted (x ∷ rs) r qs (e ∷ es) busy (inr f) =
    let p = parted rs r qs es busy f.1 in
    record { first = e ∷ p.first; step = p.step; rest = p.rest; all = ap (λ l. e ∷ l) p.all; before = inr (f.0, p.before); at = p.at; after = p.after }

-- an event with a reply is not one at which nothing happens
busy_if : (in_batch : Bool) (r : Report) (now : ℕ) (to : Destination) (reply : List ℕ) → r.answer ≡ Ok (record { now = now; response = responses.Reply to reply }) → IsIdle in_batch r.event r.answer → ⊥
busy_if in_batch r now to reply answer idle =
    let quiet_is : responses.Reply to reply ≡ responses.Quiet reasons.Unreadable
    = (subst (IsIdle in_batch r.event) answer idle).1 in
    absurd (cc)

-- how many elements are before a place in a list
count : {A : Type 0} → List A → ℕ
count [] = 0
count (x ∷ xs) = suc (count xs)

-- the element at a place
element : {A : Type 0} (front : List A) (x : A) (back : List A) → slice_get (front ++ x ∷ back) (count front) ≡ Some x
unfolding count
element [] x back = refl
element (y ∷ front) x back = element front x back

count_less : {A : Type 0} (front : List A) (x : A) (more : List A) → count front < count (front ++ x ∷ more)
unfolding count
count_less [] x more = omega arith
count_less (y ∷ front) x more = let h = count_less front x more in omega (arith, h)

-- an element is in a list
record IsIn {A : Type 0} (list : List A) (x : A) : Type 0 where
  front : List A
  back : List A
  all : list ≡ front ++ x ∷ back

in_first : {A : Type 0} (list tail : List A) (k : ℕ) (x : A) → k < count list → slice_get (list ++ tail) k ≡ Some x → IsIn list x
unfolding count
in_first [] tail k x less is = absurd (omega (arith, less))
in_first (y ∷ list) tail zero x less is = record { front = []; back = list; all = ap (λ z. z ∷ list) (same_Some y x is) }
in_first (y ∷ list) tail (suc k) x less is =
    let i = in_first list tail k x (omega (arith, less)) is in
    record { front = y ∷ i.front; back = i.back; all = ap (λ l. y ∷ l) i.all }

in_at : {A : Type 0} (list : List A) (k : ℕ) (x : A) → slice_get list k ≡ Some x → IsIn list x
in_at [] k x is = absurd (none-some x is)
in_at (y ∷ list) zero x is = record { front = []; back = list; all = ap (λ z. z ∷ list) (same_Some y x is) }
in_at (y ∷ list) (suc k) x is = let i = in_at list k x is in record { front = y ∷ i.front; back = i.back; all = ap (λ l. y ∷ l) i.all }

in_between : {A : Type 0} (first : List A) (e : A) (mid tail : List A) (k : ℕ) (x : A) → count first < k → k < count (first ++ e ∷ mid) → slice_get (first ++ e ∷ (mid ++ tail)) k ≡ Some x → IsIn mid x
unfolding count
in_between [] e mid tail zero x after before is = absurd (omega (arith, after))
in_between [] e mid tail (suc k) x after before is = in_first mid tail k x (omega (arith, before)) is
in_between (y ∷ first) e mid tail zero x after before is = absurd (omega (arith, after))
in_between (y ∷ first) e mid tail (suc k) x after before is = in_between first e mid tail k x (omega (arith, after)) (omega (arith, before)) is

-- a step is that of an event
its_event : (rs : List Exchange) (es front : List LeaseStep) (x : LeaseStep) (back : List LeaseStep) → es ≡ front ++ x ∷ back → Follow rs es → IsAmong (λ r. IsSoundStep r x) rs
unfolding Follow
its_event [] es front x back all f = absurd (filled front x back (sym f ∙ all))
its_event (r ∷ rs) [] front x back all f = absurd (filled front x back all)
its_event (r ∷ rs) (e ∷ es) front x back all (inl f) =
    let i = its_event rs (e ∷ es) front x back all f.1 in
    record { front = r ∷ i.front; exchange = i.exchange; back = i.back; all = ap (λ l. r ∷ l) i.all; is = i.is }
its_event (r ∷ rs) (e ∷ es) [] x back all (inr f) =
    let same : e ≡ x = cc in
    record { front = []; exchange = r; back = rs; all = refl; is = subst (IsSoundStep r) same f.0 }
its_event (r ∷ rs) (e ∷ es) (y ∷ front) x back all (inr f) =
    let rest : es ≡ front ++ x ∷ back = cc in
    let i = its_event rs es front x back rest f.1 in
    record { front = r ∷ i.front; exchange = i.exchange; back = i.back; all = ap (λ l. r ∷ l) i.all; is = i.is }

-- what happens in a step of a history
happens_at : (rows : List Row) (first : List LeaseStep) (e : LeaseStep) (rest : List LeaseStep) → LeaseHistory rows (first ++ e ∷ rest) → Happens e e.outcome
happens_at rows [] e rest h = h.1
happens_at rows (x ∷ first) e rest h = happens_at x.after first e rest h.2

-- the number of four bytes
abbrev four : List ℕ → ℕ
four ys = slice_index ys 0 * 256 ^ 3 + (slice_index ys 1 * 256 ^ 2 + (slice_index ys 2 * 256 ^ 1 + (slice_index ys 3 * 256 ^ 0 + 0)))

four_back : (x : ℕ) → x < 2 ^ 32 → four (bytes_high_first 4 x) ≡ x
four_back x fits = let back = from_be_bytes-to_be_bytes_4 x fits in omega (arith, back)

same_four : (x y : ℕ) → x < 2 ^ 32 → y < 2 ^ 32 → big_bytes 4 x ≡ big_bytes 4 y → x ≡ y
same_four x y small little same = sym (four_back x small) ∙ ap four same ∙ four_back y little

-- a step that is answered with a reply that gives an address: what was decided
record Decided (e : LeaseStep) (type : MessageType) (client : List ℕ) (a seconds now : ℕ) : Type 0 where
  kind : PlanKind
  content : Content
  outcome : e.outcome ≡ Some (planned kind a content)
  changes : Changes e.config e.before e.message (now_of e) e.after (planned kind a content)
  by : identity_under e.config e.message ≡ Some client
  type_is : plan_type kind ≡ type_number type
  times : Times
  granted : AreGranted e.config e.before e.message (now_of e) a times
  told : lifetime_told kind times ≡ Some (big_bytes 4 seconds)
  range : seconds < 2 ^ 32
  lifetime : times.lifetime < 2 ^ 32
  time : now ≡ now_of e

-- the address of a reply is in its header
yiaddr_of : (kind : PlanKind) (y : ℕ) (fields : BootFields) (h : Header) → (header_of_reply kind y fields h).yiaddr ≡ y
unfolding header_of_reply
yiaddr_of kind y fields h = refl

module _ (founded : EndsAreFounded) (read_back : RepliesReadBack) where
  decided : (r : Exchange) (e : LeaseStep) (type : MessageType) (client : List ℕ) (a seconds now : ℕ) → IsSoundStep r e → Happens e e.outcome → IsAnsweredBy type r client a seconds now
      → Decided e type client a seconds now
  decided r e type client a seconds now is happens given = by answered.1.0 answered.1.1 answered.1.2 where
    response : Response
    response = responses.Reply given.destination given.reply

    answered : IsAnswerOf is.ports e (Ok (record { now = now; response = response }))
    answered = subst (IsAnswerOf is.ports e) given.answer is.is.answer

    sound : IsSound e.config
    sound = subst IsSound (sym is.is.config_is) is.sound

    small : (y : ℕ) (times : Times) → AreGranted e.config e.before e.message (now_of e) y times → times.lifetime < 2 ^ 32
    small y times g =
        let most = granted_bounded (asked_for e.config e.before g.names e.message (now_of e) g.client) sound y in
        omega (arith, most, ap (λ (t : Times). t.lifetime) g.are)

    by : (got : Outcome) → e.outcome ≡ Some got → Responds is.ports e.message got response → Decided e type client a seconds now
    by (quiet reason) outcome responds = absurd (let same : response ≡ responses.Quiet reason = responds in cc)
    by (planned kind yiaddr content) outcome responds =
        let changes : Happens e (Some (planned kind yiaddr content)) = subst (Happens e) outcome happens in
        let m : IsMessage e.message = record { datagram = r.report.event.bytes; bytes_are = given.datagram; reads = is.is.reads } in
        let back = read_back e.config e.before e.after e.message (now_of e) kind yiaddr content given.reply sound m changes responds.1 in
        let same = one_message given.reply back.reply given.gives.message back.reads given.gives.reads in
        let header : given.gives.message.header ≡ header_of_reply kind yiaddr content.fields e.message.header = ap (λ m. m.header) (sym same) ∙ back.header in
        let address : yiaddr ≡ a = sym (yiaddr_of kind yiaddr content.fields e.message.header) ∙ ap (λ (h : Header). h.yiaddr) (sym header) ∙ given.gives.address in
        record {
          kind = kind;
          content = content;
          outcome = outcome ∙ ap (λ (y : ℕ). Some (planned kind y content)) address;
          changes = subst (λ (y : ℕ). Changes e.config e.before e.message (now_of e) e.after (planned kind y content)) address changes;
          by = sym back.client ∙ ap (identity_under e.config) same
              ∙ ap (λ (config : Configuration). identity_under config given.gives.message) is.is.config_is ∙ given.gives.for_client;
          type_is = sym back.type ∙ ap kind_of same ∙ given.gives.type_is;
          times = back.times;
          granted = subst (λ (y : ℕ). AreGranted e.config e.before e.message (now_of e) y back.times) address back.granted;
          told = sym back.lifetime ∙ ap (λ m. value_of 51 m.options) same ∙ given.gives.time;
          range = given.gives.range;
          lifetime = small yiaddr back.times back.granted;
          time = answered.0;
        }

  -- an ACK that tells a lifetime is of a REQUEST
  is_request : (e : LeaseStep) (client : List ℕ) (a : ℕ) (content : Content) → Changes e.config e.before e.message (now_of e) e.after (planned kinds.Ack a content)
      → kind_of e.message ≡ type_number types.Request
  is_request e client a content c = ⊎_elim silent by (ruled e.config e.before c.names e.message (now_of e) c.set (planned kinds.Ack a content) c.decides) where
    silent : IsSilent c.set (planned kinds.Ack a content) → kind_of e.message ≡ type_number types.Request
    silent s = let no : planned kinds.Ack a content ≡ quiet s.1.0 = s.1.1 in absurd (cc)

    by : Ruled e.config e.before c.names e.message (now_of e) c.set (planned kinds.Ack a content) → kind_of e.message ≡ type_number types.Request
    by r = sym r.does.is ∙ ap type_number (requested_if founded _ r.does.type c.set a content r.does.sets)

  acks : (e : LeaseStep) (client : List ℕ) (a seconds now : ℕ) (kind : PlanKind) (content : Content) (times : Times) → plan_type kind ≡ 5 → lifetime_told kind times ≡ Some (big_bytes 4 seconds)
      → e.outcome ≡ Some (planned kind a content) → Changes e.config e.before e.message (now_of e) e.after (planned kind a content) → identity_under e.config e.message ≡ Some client
      → GivesLease e client a × (big_bytes 4 times.lifetime ≡ big_bytes 4 seconds)
  acks e client a seconds now kinds.Offer content times type told outcome changes by = absurd (omega (arith, type))
  acks e client a seconds now kinds.Ack content times type told outcome changes by =
      (record { by = by; request = is_request e client a content changes; content = content; ack = outcome }, same_Some (big_bytes 4 times.lifetime) (big_bytes 4 seconds) told)
  acks e client a seconds now kinds.InformAck content times type told outcome changes by = absurd (none-some (big_bytes 4 seconds) told)
  acks e client a seconds now kinds.Nak content times type told outcome changes by = absurd (omega (arith, type))

  offers : (e : LeaseStep) (client : List ℕ) (a : ℕ) (kind : PlanKind) (content : Content) → plan_type kind ≡ 2
      → e.outcome ≡ Some (planned kind a content) → identity_under e.config e.message ≡ Some client → GivesOffer e client a
  offers e client a kinds.Offer content type outcome by = record { by = by; content = content; offer = outcome }
  offers e client a kinds.Ack content type outcome by = absurd (omega (arith, type))
  offers e client a kinds.InformAck content type outcome by = absurd (omega (arith, type))
  offers e client a kinds.Nak content type outcome by = absurd (omega (arith, type))

  leased : (e : LeaseStep) (client : List ℕ) (a seconds now : ℕ) → Decided e types.Ack client a seconds now → GivesLease e client a × LastsFor e a seconds
  leased e client a seconds now d =
      let l = acks e client a seconds now d.kind d.content d.times d.type_is d.told d.outcome d.changes d.by in
      (l.0, record { times = d.times; granted = d.granted; is = sym (same_four d.times.lifetime seconds d.lifetime d.range l.1) })

  given_to : (e : LeaseStep) (type : MessageType) (client : List ℕ) (a seconds now : ℕ) → (type ≡ types.Offer) ⊎ (type ≡ types.Ack) → Decided e type client a seconds now → GivesTo e client a
  given_to e type client a seconds now offers_or_acks d = ⊎_elim
      (λ offer. inl (offers e client a d.kind d.content (d.type_is ∙ ap type_number offer) d.outcome d.by))
      (λ ack. inr (acks e client a seconds now d.kind d.content d.times (d.type_is ∙ ap type_number ack) d.told d.outcome d.changes d.by).0)
      offers_or_acks

  module _ (across : NoOverlapAcross) (life : List Opening) (is : Life life) (all : List LeaseStep) (whole : LeaseHistory (first_rows life) all) (are : AreStepsOfAll life all) where
    -- no two replies overlap, by the steps of a history
    apart : NeverOverlapBy life all
    apart client a seconds now later between twice = ⊎_elim
        (λ late. inl (omega (arith, late, p.time, q.time)))
        (λ loosened. inr (⊎_elim (λ up. inl (given_up up)) (λ short. inr (shortened short)) loosened))
        (across (first_rows life) es history i j e f client a seconds one.1 regives) where
          steps : Follow (exchanges_of_all life) all
          steps = life_steps life is all are

          early : IsParted twice.before twice.first (between ++ twice.second ∷ twice.after) all
          early = parted twice.before twice.first (between ++ twice.second ∷ twice.after) all
              (busy_if twice.first.report.in_batch twice.first.report now twice.leases.destination twice.leases.reply twice.leases.answer)
              (subst (λ (rs : List Exchange). Follow rs all) twice.order steps)

          late_part : IsParted between twice.second twice.after early.rest
          late_part = parted between twice.second twice.after early.rest
              (busy_if twice.second.report.in_batch twice.second.report later twice.gives.destination twice.gives.reply twice.gives.answer) early.after

          e : LeaseStep
          e = early.step

          f : LeaseStep
          f = late_part.step

          tail : List LeaseStep
          tail = f ∷ late_part.rest

          es : List LeaseStep
          es = early.first ++ e ∷ (late_part.first ++ tail)

          grouped : all ≡ es
          grouped = early.all ∙ ap (λ l. early.first ++ e ∷ l) late_part.all

          history : LeaseHistory (first_rows life) es
          history = subst (LeaseHistory (first_rows life)) grouped whole

          regrouped : (early.first ++ e ∷ late_part.first) ++ tail ≡ es
          regrouped = append_assoc early.first (e ∷ late_part.first) tail

          p : Decided e types.Ack client a seconds now
          p = decided twice.first e types.Ack client a seconds now early.at (happens_at (first_rows life) early.first e (late_part.first ++ tail) history) twice.leases

          q : Decided f twice.type twice.other a twice.time later
          q = decided twice.second f twice.type twice.other a twice.time later late_part.at
              (happens_at (first_rows life) (early.first ++ e ∷ late_part.first) f late_part.rest (subst (LeaseHistory (first_rows life)) (sym regrouped) history)) twice.gives

          one : GivesLease e client a × LastsFor e a seconds
          one = leased e client a seconds now p

          i : ℕ
          i = count early.first

          j : ℕ
          j = count (early.first ++ e ∷ late_part.first)

          regives : Regives es i j e f client a
          regives = record {
            before = count_less early.first e late_part.first;
            first = element early.first e (late_part.first ++ tail);
            second = ap (λ (l : List LeaseStep). slice_get l j) (sym regrouped) ∙ element (early.first ++ e ∷ late_part.first) f late_part.rest;
            leases = one.0;
            other = twice.other;
            gives = given_to f twice.type twice.other a twice.time later twice.offers q;
            apart = twice.apart;
          }

          event_of : (place : ℕ) (step : LeaseStep) → i < place → place < j → slice_get es place ≡ Some step → IsAmong (λ r. IsSoundStep r step) between
          event_of place step after before there =
              let it = in_between early.first e late_part.first tail place step after before there in
              its_event between late_part.first it.front step it.back it.all late_part.before

          a_step : (r : Exchange) (place : ℕ) (step : LeaseStep) → slice_get es place ≡ Some step → IsSoundStep r step → IsSomeStep all r step
          a_step r place step there its =
              let at = in_at es place step there in
              record { ports = its.ports; is = its.is; front = at.front; back = at.back; there = grouped ∙ at.all }

          given_up : GivesUpBetween es i j client a → IsAmong (IsGivenUp all client a) between
          given_up g =
              let it = event_of g.place g.step g.after g.before g.there in
              record { front = it.front; exchange = it.exchange; back = it.back; all = it.all; is = record { step = g.step; is = a_step it.exchange g.place g.step g.there it.is; gives_up = g.gives_up } }

          shortened : ShortenedBetween es i j e client a seconds (now_of f) → IsAmong (IsShortened all client a seconds later) between
          shortened s =
              let it = event_of s.place s.step s.after s.before s.there in
              record {
                front = it.front;
                exchange = it.exchange;
                back = it.back;
                all = it.all;
                is = record {
                  step = s.step;
                  is = a_step it.exchange s.place s.step s.there it.is;
                  fewer = s.fewer;
                  renews = s.renews;
                  shorter = s.shorter;
                  past = let past = s.past in omega (arith, past, q.time);
                };
              }

  -- no two replies of a life overlap
  pub sent : LivesAreHistories → NoOverlapAcross → NoReplyOverlaps
  sent lives across life is =
      let whole = lives life is in
      (whole.0, whole.1, whole.2, apart across life is whole.0 whole.1 whole.2)
