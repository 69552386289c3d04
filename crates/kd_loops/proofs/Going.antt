-- A replay that goes on: the lines so far are handled, and the rest of the input is not read.
use Rattle.std.proofs.Common.{◌≡◌, ℕ, ◌+◌, ◌<◌, ◌≤◌, ◌⊎◌, List, [], ◌∷◌, ◌++◌, Some, None, refl, sym, ap, ◌∙◌, arith, append_assoc, length, length-append, inl, inr}
use Rattle.std.specs.Prelude.{Option, Ok, Err}
use Rattle.std.specs.Io.KnownBytes.{Appends, prepend_known}
use Rattle.std.proofs.lemmas.List.{append-nil, flat_map_more}
use Rattle.kd_loops.specs.Handling.{EndsEvent, HandlesEvent}
use Rattle.kd_loops.specs.Lines.{HasMoment, IsEventLine, line_feeds, lines_of}
use Rattle.kd_loops.specs.Finding.{FailsIn, FindsIn}
use Rattle.kd_loops.specs.Replay.{Did, Ends, Handles, HandlesWhole, FirstLineIs, IsNoEvent, LeavesWritten, most_lines}
use Rattle.kd_loops.specs.Text.{line_of}
use Rattle.kd_event.specs.declared.event.Event.{Event}
use Rattle.kd_event.specs.declared.event.Handled.{Handled}
use Rattle.kd_loops.specs.declared.fault.ReplayFault.{ReplayFault}
use Rattle.kd_loops.specs.declared.fault.ReplayFault.TheVariants as faults
use Rattle.kd_loops.specs.declared.fault.ServeFault.{ServeFault}
use Rattle.kd_loops.specs.declared.lines.Found.TheVariants as found
use Rattle.kd_loops.proofs.Histories.{more_events, more_history}
use Rattle.kd_loops.proofs.Looking.{feeds_append, feeds_plain}

appended : (old new : Option (List ℕ)) (text out : List ℕ) → Appends old new text → old ≡ Some out → new ≡ Some (out ++ text)
appended None new text out p e = absurd (cc)
appended (Some xs) None text out p e = absurd p
appended (Some xs) (Some ys) text out p e = let same : xs ≡ out = cc in ap (λ l. Some l) (p ∙ ap (λ x. x ++ text) same)

pub none_ahead : {ahead : List ℕ} {left : Option (List ℕ)} {input : List ℕ} → ahead ≡ [] → left ≡ Some input → prepend_known ahead left ≡ Some input
none_ahead none e = rw (none, e) refl

module _ {H : Type 0} (gives : H → Event → Handled → H → Type 0) where
  pub handles_none : (server : H) → Handles gives 0 server server
  handles_none server = record { events = []; list = []; counted = refl; history = refl }

  pub handles_more : (count : ℕ) (server mid new : H) (event : Event) (contents contents' : Option (List ℕ)) → Handles gives count server mid → HandlesEvent gives event mid new contents contents'
      → Handles gives (count + 1) server new
  handles_more count server mid new event contents contents' h one = record {
    events = h.events ++ event ∷ [];
    list = h.list ++ one.handled ∷ [];
    counted = omega (arith, length-append h.events (event ∷ []), h.counted);
    history = more_history gives server h.events h.list mid event one.handled new h.history one.given;
  }

  did_none : (server : H) (old : List ℕ) → Did gives [] server server old old
  did_none server old = record { events = []; list = []; spelled = tt; history = refl; written = sym (append-nil old) }

  did_more : (before : List (List ℕ)) (server mid : H) (old out line : List ℕ) (event : Event) (handled : Handled) (new : H)
      → Did gives before server mid old out → IsEventLine line event → gives mid event handled new → Did gives (before ++ line ∷ []) server new old (out ++ line_of handled)
  did_more before server mid old out line event handled new did is given = record {
    events = did.events ++ event ∷ [];
    list = did.list ++ handled ∷ [];
    spelled = more_events before did.events line event did.spelled is;
    history = more_history gives server did.events did.list mid event handled new did.history given;
    written = ap (λ o. o ++ line_of handled) did.written ∙ flat_map_more line_of old did.list handled;
  }

  -- this many lines of the input are handled, the remaining input holds the others, and the sink
  -- holds their text; each line feed that was consumed is that of a handled line
  pub record Going (input : List ℕ) (server : H) (old : List ℕ) (number : ℕ) (mid : H) (left contents : Option (List ℕ)) : Type 0 where
    pub before : List (List ℕ)
    pub used : List ℕ
    pub rest : List ℕ
    pub out : List ℕ
    pub known : left ≡ Some rest
    pub split : input ≡ used ++ rest
    pub feeds : line_feeds used ≤ length before
    pub lines : lines_of input ≡ before ++ lines_of rest
    pub count : length before ≡ number
    pub told : contents ≡ Some out
    pub did : Did gives before server mid old out

  pub going_none : (input : List ℕ) (server : H) (old : List ℕ) (left contents : Option (List ℕ)) → left ≡ Some input → contents ≡ Some old → Going input server old 0 server left contents
  going_none input server old left contents known told =
      record { before = []; used = []; rest = input; out = old; known = known; split = refl; feeds = omega arith; lines = refl; count = refl; told = told; did = did_none server old }

  pub going_line : (input : List ℕ) (server : H) (old : List ℕ) (number : ℕ) (mid : H) (left contents : Option (List ℕ)) (g : Going input server old number mid left contents)
      (left' : Option (List ℕ)) (text : List ℕ) (event : Event) (new : H) (contents' : Option (List ℕ)) → FindsIn found.Line g.rest left' text → IsEventLine text event
      → HandlesEvent gives event mid new contents contents' → Going input server old (number + 1) new left' contents'
  going_line input server old number mid left contents g left' text event new contents' f is h = record {
    before = g.before ++ text ∷ [];
    used = g.used ++ f.taken;
    rest = f.rest;
    out = g.out ++ line_of h.handled;
    known = f.known;
    split = g.split ∙ ap (λ r. g.used ++ r) f.whole ∙ sym (append_assoc g.used f.taken f.rest);
    feeds = omega (arith, feeds_append g.used f.taken, f.one, g.feeds, length-append g.before (text ∷ []));
    lines = g.lines ∙ ap (λ r. g.before ++ r) f.finds.0 ∙ sym (append_assoc g.before (text ∷ []) (lines_of f.rest));
    count = omega (arith, length-append g.before (text ∷ []), g.count);
    told = appended contents contents' (line_of h.handled) g.out h.appended g.told;
    did = did_more g.before server mid old g.out text event h.handled new g.did is h.given;
  }

module _ {H : Type 0} (gives : H → Event → Handled → H → Type 0) (input : List ℕ) (server : H) (old : List ℕ) (number : ℕ) (mid : H) (left contents : Option (List ℕ)) (g : Going gives input server old number mid left contents) where
  -- the source has failed within a line
  pub whole_read : (left' : Option (List ℕ)) → FailsIn g.rest left' → HandlesWhole gives input left' server mid old contents
  whole_read left' f = record {
    given = g.used ++ f.part;
    rest = f.rest;
    out = g.out;
    before = g.before;
    after = lines_of g.rest;
    all = g.split ∙ ap (λ r. g.used ++ r) f.whole ∙ sym (append_assoc g.used f.part f.rest);
    known = f.known;
    told = g.told;
    lines = g.lines;
    whole = omega (arith, feeds_append g.used f.part, feeds_plain f.part f.plain, g.feeds);
    did = g.did;
  }

has_moment : (line : List ℕ) (event : Event) → IsEventLine line event → HasMoment line
has_moment line event is = record {
  digits = is.digits;
  text = is.hex;
  moment = event.moment;
  short = is.short;
  whole = is.whole;
  spells = is.moment;
}

module _ {H : Type 0} (gives : H → Event → Handled → H → Type 0) (fails : H → Event → ServeFault → H → Type 0) where
  module _ (source_failed : Type 0) (input : List ℕ) (server : H) (old : List ℕ) (number : ℕ) (mid : H) (left contents : Option (List ℕ)) (g : Going gives input server old number mid left contents) (few : number ≤ most_lines) where
    pub leaves_end : (left' : Option (List ℕ)) (text : List ℕ) → FindsIn found.End g.rest left' text → LeavesWritten gives fails source_failed (Ok number) input server mid old contents
    leaves_end left' text f =
        let e : lines_of input ≡ g.before = g.lines ∙ ap (λ r. g.before ++ r) f.finds ∙ append-nil g.before in
        record { out = g.out; told = g.told; replays = (rw e (sym g.count), few, rw e g.did) }

    stopped : (fault : ReplayFault) (new : H) (out : List ℕ) (contents' : Option (List ℕ)) → contents' ≡ Some out → (fault ≡ faults.Read) ⊎ (number < most_lines) → Ends gives fails source_failed fault (number + 1) (lines_of g.rest) mid new g.out out
        → LeavesWritten gives fails source_failed (Err fault) input server new old contents'
    stopped fault new out contents' told early ends = record {
      out = out;
      told = told;
      replays = record { before = g.before; after = lines_of g.rest; mid = mid; between = g.out; all = g.lines; few = rw g.count few; early = rw g.count early; did = g.did; ends = rw g.count ends };
    }

    pub leaves_read : source_failed → LeavesWritten gives fails source_failed (Err faults.Read) input server mid old contents
    leaves_read failed = stopped faults.Read mid g.out contents g.told (inl refl) (inl failed, refl, refl)

    pub leaves_memory : number < most_lines → (number + 1 ≡ 1) ⊎ FirstLineIs HasMoment (lines_of g.rest)
        → LeavesWritten gives fails source_failed (Err faults.Memory) input server mid old contents
    leaves_memory early where_is = stopped faults.Memory mid g.out contents g.told (inr early) (where_is, refl, refl)

    pub leaves_memory_at : number < most_lines → (left' : Option (List ℕ)) (text : List ℕ) → FindsIn found.Line g.rest left' text
        → HasMoment text → LeavesWritten gives fails source_failed (Err faults.Memory) input server mid old contents
    leaves_memory_at early left' text f has = leaves_memory early (rw f.finds.0 (inr has))

    pub leaves_too_long : number < most_lines → (left' : Option (List ℕ)) (text : List ℕ) → FindsIn found.TooLong g.rest left' text → LeavesWritten gives fails source_failed (Err (faults.BadLine (number + 1))) input server mid old contents
    leaves_too_long early left' text f =
        let none : IsNoEvent f.finds.first = λ event p. omega (arith, p.short, f.finds.long) in
        stopped (faults.BadLine (number + 1)) mid g.out contents g.told (inr early) (rw f.finds.all (refl, none, refl, refl))

    pub leaves_bad : number < most_lines → (left' : Option (List ℕ)) (text : List ℕ) → FindsIn found.Line g.rest left' text → IsNoEvent text
        → LeavesWritten gives fails source_failed (Err (faults.BadLine (number + 1))) input server mid old contents
    leaves_bad early left' text f none = stopped (faults.BadLine (number + 1)) mid g.out contents g.told (inr early) (rw f.finds.0 (refl, none, refl, refl))

    pub leaves_event : number < most_lines → (left' : Option (List ℕ)) (text : List ℕ) (event : Event) (fault : ReplayFault) (new : H) (contents' : Option (List ℕ)) → FindsIn found.Line g.rest left' text
        → IsEventLine text event → EndsEvent gives fails fault event mid new contents contents' → LeavesWritten gives fails source_failed (Err fault) input server new old contents'
    leaves_event early left' text event (faults.BadLine k) new contents' f is e = absurd e
    leaves_event early left' text event (faults.Serve fault) new contents' f is e =
        stopped (faults.Serve fault) new g.out contents' (e.2 ∙ g.told) (inr early) (rw f.finds.0 (record { event = event; spelled = is; failed = e.0; other = e.1 }, refl))
    leaves_event early left' text event faults.Write new contents' f is e =
        stopped faults.Write new (g.out ++ e.cut.part) contents' (appended contents contents' e.cut.part g.out e.cut.written g.told) (inr early)
        (rw f.finds.0 (record { event = event; handled = e.handled; part = e.cut.part; more = e.cut.more; spelled = is; given = e.given; cut = e.cut.cut; written = refl }))
    leaves_event early left' text event faults.Read new contents' f is e = absurd e
    leaves_event early left' text event faults.Memory new contents' f is e =
        stopped faults.Memory new g.out contents' (e.1 ∙ g.told) (inr early) (rw f.finds.0 (inr (has_moment text event is)), e.0, refl)

    -- there is one line too many
    module _ (all : number ≡ most_lines) where
      pub leaves_more : (left' : Option (List ℕ)) (text : List ℕ) → FindsIn found.Line g.rest left' text → LeavesWritten gives fails source_failed (Err faults.Read) input server mid old contents
      leaves_more left' text f = stopped faults.Read mid g.out contents g.told (inl refl) (inr (ap (λ n. n + 1) all, rw f.finds.0 (omega arith)), refl, refl)

      pub leaves_more_long : (left' : Option (List ℕ)) (text : List ℕ) → FindsIn found.TooLong g.rest left' text → LeavesWritten gives fails source_failed (Err faults.Read) input server mid old contents
      leaves_more_long left' text f = stopped faults.Read mid g.out contents g.told (inl refl) (inr (ap (λ n. n + 1) all, rw f.finds.all (omega arith)), refl, refl)
