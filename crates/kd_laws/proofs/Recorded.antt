-- A replay of what serving recorded writes what serving logged.
use Rattle.std.proofs.Common.{◌≡◌, ◌≢◌, ℕ, true, List, [], ◌∷◌, ◌++◌, map, Option, Some, None, Result, Ok, Err, inl, inr, refl, sym, ap, ◌∙◌, subst, append_assoc}
use Rattle.std.specs.Io.KnownBytes.{Appends}
use Rattle.std.specs.List.{flat_map}
use Rattle.std.proofs.lemmas.Bool.{eqb-false}
use Rattle.std.proofs.lemmas.Grind.{flat_map-append}
use Rattle.std.proofs.lemmas.List.{append-nil, append_cancel_left, map-append}
use Rattle.std.proofs.lemmas.List.Elements.{All-append, All-nil}
use Rattle.std.proofs.lemmas.List.Folds.{flat_map-map}
use Rattle.std.proofs.lemmas.Option.{same_Some}
use Rattle.hex.specs.Hex.{decode_of}
use Rattle.kd_config.specs.Configuration.{Configuration}
use Rattle.kd_event.specs.declared.event.Event.{Event}
use Rattle.kd_event.specs.declared.event.Handled.{Handled}
use Rattle.kd_event.specs.declared.ports.Ports.{Ports}
use Rattle.kd_keeps.specs.declared.keeps.Keeps.{Ghosts}
use Rattle.kd_loops.specs.Ahead.{clocks_asked}
use Rattle.kd_loops.specs.Arriving.{IsRecordable}
use Rattle.kd_loops.specs.History as past
use Rattle.kd_loops.specs.Lines.{IsEventLine, lines_of, number_after}
use Rattle.kd_loops.specs.Recording.{record_line}
use Rattle.kd_loops.specs.Replay.{AreEvents, Did, Ends, Stops}
use Rattle.kd_loops.specs.Serving.{Answered, Batch, Follow, HasServed, Passes, ServesTo, Timed, Traffic, events_in, handled_in, record_of, text_of, texts_of, trace_of}
use Rattle.kd_loops.specs.Text.{line_of}
use Rattle.kd_loops.specs.declared.fault.LoopFault.{LoopFault}
use Rattle.kd_loops.specs.declared.fault.LoopFault.TheVariants as faults
use Rattle.kd_loops.specs.declared.fault.ReplayFault.{ReplayFault}
use Rattle.kd_loops.specs.declared.fault.ReplayFault.TheVariants as replaying
use Rattle.kd_loops.specs.declared.happening.Happening.{Happening}
use Rattle.kd_loops.proofs.Batches.{passes_then}
use Rattle.kd_loops.proofs.Recorded.{all_recordable, records_are, records_replay}
use Rattle.kd_loops.proofs.Spelling.{digits_plain}
use Rattle.kd_rows.specs.declared.row.Row.{Row}
use Rattle.kd_server.specs.Batch.{Batched, LeavesOut}
use Rattle.kd_server.specs.Server.{ServerState, Refuses, Steps, StepsTo, latest_in}
use Rattle.kd_text.specs.Words.{HasNo}
use Rattle.kd_laws.specs.OneStep.{OneStep}
use Rattle.kd_laws.specs.Recorded.{GrowsByPrefix, GrowsByLog, HasGrown, IsBetweenBatches, ReplayRepeatsSession, ReplayRepeatsSessions, ReplayStopsOnTheWay, Session, SessionsAreHistories, SessionsFollow, IsServerOver, WasSession, without_send_faults}
use Rattle.kd_laws.proofs.LogLines.{lines_left}

-- a line is one event at most

one_split : (xs ys others more : List ℕ) → HasNo 32 xs → HasNo 32 others → xs ++ 32 ∷ ys ≡ others ++ 32 ∷ more → (xs ≡ others) × (ys ≡ more)
one_split [] ys [] more p q e = (refl, cc)
one_split [] ys (x ∷ others) more p q e = absurd (let is : x ≡ 32 = cc in eqb-false x 32 q.0 is)
one_split (x ∷ xs) ys [] more p q e = absurd (let is : x ≡ 32 = cc in eqb-false x 32 p.0 is)
one_split (x ∷ xs) ys (y ∷ others) more p q e =
    let head : x ≡ y = cc in
    let tail : xs ++ 32 ∷ ys ≡ others ++ 32 ∷ more = cc in
    let rest = one_split xs ys others more p.1 q.1 tail in
    (cc (head, rest.0), rest.1)

same_Ok : {A E : Type 0} (r : Result A E) (x y : A) → r ≡ Ok x → r ≡ Ok y → x ≡ y
same_Ok r x y h k = cc

one_event : (line : List ℕ) (a b : Event) → IsEventLine line a → IsEventLine line b → a ≡ b
one_event line a b p q =
    let parts = one_split p.digits p.hex q.digits q.hex (digits_plain 32 refl p.digits 0 a.moment p.moment.number) (digits_plain 32 refl q.digits 0 b.moment q.moment.number) (sym p.whole ∙ q.whole) in
    let moments : a.moment ≡ b.moment = same_Some a.moment b.moment (sym p.moment.number ∙ ap (number_after 0) parts.0 ∙ q.moment.number) in
    let bytes : a.bytes ≡ b.bytes = same_Ok (decode_of p.hex) a.bytes b.bytes p.bytes (ap decode_of parts.1 ∙ q.bytes) in
    λ i. record { moment = moments i; bytes = bytes i }

one_list : (lines : List (List ℕ)) (firsts others : List Event) → AreEvents lines firsts → AreEvents lines others → firsts ≡ others
one_list [] [] [] p q = refl
one_list [] [] (b ∷ others) p q = absurd q
one_list [] (a ∷ firsts) others p q = absurd p
one_list (line ∷ lines) [] others p q = absurd p
one_list (line ∷ lines) (a ∷ firsts) [] p q = absurd q
one_list (line ∷ lines) (a ∷ firsts) (b ∷ others) p q =
    let first = one_event line a b p.0 q.0 in
    let rest = one_list lines firsts others p.1 q.1 in
    λ i. first i ∷ rest i

-- histories in sequence

history_append : {H : Type 0} (gives : H → Event → Handled → H → Type 0) (firsts seconds : List Event) (xs ys : List Handled) (old mid new : H)
    → past.History gives old firsts xs mid → past.History gives mid seconds ys new → past.History gives old (firsts ++ seconds) (xs ++ ys) new
history_append gives [] seconds [] ys old mid new h k = subst (λ s. past.History gives s seconds ys new) h k
history_append gives [] seconds (x ∷ xs) ys old mid new h k = absurd h
history_append gives (a ∷ firsts) seconds [] ys old mid new h k = absurd h
history_append gives (a ∷ firsts) seconds (x ∷ xs) ys old mid new h k = (h.0, h.1, history_append gives firsts seconds xs ys h.0 mid new h.2 k)

-- a server's history is one of its rows, and it keeps its configuration and its ports
steps_are : {T : Type 0} (h : Ghosts T) (config : Configuration) (ports : Ports) (events : List Event) (list : List Handled) (old new : ServerState T) → old.ports ≡ ports → old.config ≡ config
    → past.History (Steps h) old events list new → past.History (StepsTo config ports) old.rows events list new.rows × (new.ports ≡ ports) × (new.config ≡ config)
steps_are h config ports [] [] old new p c is = (ap (λ s. s.rows) is, ap (λ s. s.ports) is ∙ p, ap (λ s. s.config) is ∙ c)
steps_are h config ports [] (x ∷ list) old new p c is = absurd is
steps_are h config ports (event ∷ events) [] old new p c is = absurd is
steps_are h config ports (event ∷ events) (x ∷ list) old new p c is =
    let step : StepsTo config ports old.rows event x is.0.rows =
    subst (λ (q : Configuration). StepsTo q ports old.rows event x is.0.rows) c
    (subst (λ (q : Ports). StepsTo old.config q old.rows event x is.0.rows) p is.1.step) in
    let rest = steps_are h config ports events list is.0 new (is.1.ports ∙ p) (is.1.config ∙ c) is.2 in
    ((is.0.rows, step, rest.0), rest.1, rest.2)

-- rows and events have one history
one_past : OneStep → (config : Configuration) (ports : Ports) (events : List Event) (list others : List Handled) (rows new its : List Row)
    → past.History (StepsTo config ports) rows events list new → past.History (StepsTo config ports) rows events others its → (list ≡ others) × (new ≡ its)
one_past one config ports [] [] [] rows new its h k = (refl, h ∙ sym k)
one_past one config ports [] [] (y ∷ others) rows new its h k = absurd k
one_past one config ports [] (x ∷ list) others rows new its h k = absurd h
one_past one config ports (event ∷ events) [] others rows new its h k = absurd h
one_past one config ports (event ∷ events) (x ∷ list) [] rows new its h k = absurd k
one_past one config ports (event ∷ events) (x ∷ list) (y ∷ others) rows new its h k =
    let same = one config ports rows event x y h.0 k.0 h.1 k.1 in
    let from : past.History (StepsTo config ports) k.0 events list new = subst (λ (r : List Row). past.History (StepsTo config ports) r events list new) same.1 h.2 in
    let rest = one_past one config ports events list others k.0 new its from k.2 in
    ((λ i. same.0 i ∷ rest.0 i), rest.1)

-- batches in sequence are a history

answers_in : List Batch → List Answered
answers_in list = flat_map (λ b. b.answers) list

texts_are : (list : List Batch) → flat_map texts_of list ≡ flat_map text_of (answers_in list)
unfolding answers_in
texts_are [] = refl
texts_are (b ∷ list) = ap (λ t. texts_of b ++ t) (texts_are list) ∙ sym (flat_map-append text_of b.answers (flat_map (λ c. c.answers) list))

handled_are : (list : List Batch) → flat_map handled_in list ≡ map (λ a. a.handled) (answers_in list)
unfolding answers_in
handled_are [] = refl
handled_are (b ∷ list) = ap (λ t. handled_in b ++ t) (handled_are list) ∙ sym (map-append (λ a. a.handled) b.answers (flat_map (λ c. c.answers) list))

-- events that are all handled have a history
whole_run : (steps : List Row → Event → Handled → List Row → Type 0) (events : List Event) (list : List Handled) (old new : List Row) → past.Runs steps LeavesOut events list None old new
    → past.History steps old events list new
whole_run steps events list old new r = subst (λ (es : List Event). past.History steps old es list new) (sym r.all) (by r.after r.halts)
  where
    by : (after : List Event) → past.Halts LeavesOut None after list r.mid new → past.History steps old (r.done ++ after) list new
    by [] same =
        let ends : past.History steps old (r.done ++ []) list r.mid = rw (append-nil r.done) r.history in
        subst (λ (rows : List Row). past.History steps old (r.done ++ []) list rows) (sym same) ends
    by (event ∷ after) halts = absurd halts

-- what was known has grown by exactly these bytes
grown_is : (old new : Option (List ℕ)) (more bytes : List ℕ) → HasGrown old new more → Appends old new bytes → more ≡ bytes
grown_is old new more bytes h a =
    let known : Appends (Some h.first) (Some (h.first ++ more)) bytes = subst (λ (n : Option (List ℕ)). Appends (Some h.first) n bytes) h.new_is (subst (λ (o : Option (List ℕ)). Appends o new bytes) h.old_is a) in
    append_cancel_left h.first more bytes known

module _ {S : Type 0} (g : Ghosts S) where
  -- batches that follow one another are a history
  followed : (limit : Option ℕ) (config : Configuration) (ports : Ports) (list : List Batch) (old new : Timed (ServerState S)) → old.server.ports ≡ ports → old.server.config ≡ config
      → Follow limit latest_in (Batched g) old list new
      → past.History (StepsTo config ports) old.server.rows (flat_map events_in list) (flat_map handled_in list) new.server.rows × (new.server.ports ≡ ports) × (new.server.config ≡ config)
  followed limit config ports [] old new p c f = (ap (λ s. s.server.rows) f, ap (λ s. s.server.ports) f ∙ p, ap (λ s. s.server.config) f ∙ c)
  followed limit config ports (b ∷ list) old new p c f =
      let mid : ServerState S = f.1.0 in
      let first = whole_run (StepsTo old.server.config old.server.ports) (events_in b) (handled_in b) old.server.rows mid.rows f.1.1.runs in
      let steps : past.History (StepsTo config ports) old.server.rows (events_in b) (handled_in b) mid.rows =
      subst (λ (q : Configuration). past.History (StepsTo q ports) old.server.rows (events_in b) (handled_in b) mid.rows) c
      (subst (λ (q : Ports). past.History (StepsTo old.server.config q) old.server.rows (events_in b) (handled_in b) mid.rows) p first) in
      let rest = followed limit config ports list (record { server = mid; clocks = b.clocks }) new (f.1.1.ports ∙ p) (f.1.1.config ∙ c) f.1.2 in (
        history_append (StepsTo config ports) (events_in b) (flat_map events_in list) (handled_in b) (flat_map handled_in list) old.server.rows mid.rows new.server.rows steps rest.0,
        rest.1,
        rest.2,
      )

  -- serving was these batches
  record AreBatches (old new : ServerState S) (before after : Traffic) : Type 0 where
    list : List Batch
    trace : List Happening
    passes : Passes before after trace (flat_map record_of list) (flat_map texts_of list)
    history : past.History (StepsTo old.config old.ports) old.rows (flat_map events_in list) (flat_map handled_in list) new.rows
    ports : new.ports ≡ old.ports
    config : new.config ≡ old.config

  -- no batch
  none_are : (old new : ServerState S) (before after : Traffic) (trace : List Happening) → new ≡ old → Passes before after trace [] [] → AreBatches old new before after
  none_are old new before after trace same passes =
      record { list = []; trace = trace; passes = passes; history = ap (λ s. s.rows) same; ports = ap (λ s. s.ports) same; config = ap (λ s. s.config) same }

  -- batches that were served from the start on
  served_are : (limit : Option ℕ) (count : ℕ) (old : Timed (ServerState S)) (new : Timed (ServerState S)) (before begun after : Traffic) (trace : List Happening)
      → Passes before begun trace [] [] → HasServed limit latest_in (Batched g) count old new begun after → AreBatches old.server new.server before after
  served_are limit count old new before begun after trace asked s =
      let f = followed limit old.server.config old.server.ports s.list old new refl refl s.follow in
      record {
        list = s.list;
        trace = trace ++ flat_map trace_of s.list;
        passes = passes_then before begun after trace (flat_map trace_of s.list) [] (flat_map record_of s.list) [] (flat_map texts_of s.list) asked s.passes;
        history = f.0;
        ports = f.1;
        config = f.2;
      }

  -- and after which nothing is recorded or written
  then_none : (old mid new : ServerState S) (before between after : Traffic) (trace : List Happening) → AreBatches old mid before between → new ≡ mid → Passes between after trace [] []
      → AreBatches old new before after
  then_none old mid new before between after trace a same passes =
      let both = passes_then before between after a.trace trace (flat_map record_of a.list) [] (flat_map texts_of a.list) [] a.passes passes in
      let records : Passes before after (a.trace ++ trace) (flat_map record_of a.list) (flat_map texts_of a.list ++ []) =
      subst (λ (r : List ℕ). Passes before after (a.trace ++ trace) r (flat_map texts_of a.list ++ [])) (append-nil (flat_map record_of a.list)) both in
      let texts : Passes before after (a.trace ++ trace) (flat_map record_of a.list) (flat_map texts_of a.list) =
      subst (λ (w : List ℕ). Passes before after (a.trace ++ trace) (flat_map record_of a.list) w) (append-nil (flat_map texts_of a.list)) records in
      record {
        list = a.list;
        trace = a.trace ++ trace;
        passes = texts;
        history = subst (λ (rows : List Row). past.History (StepsTo old.config old.ports) old.rows (flat_map events_in a.list) (flat_map handled_in a.list) rows) (ap (λ s. s.rows) (sym same)) a.history;
        ports = ap (λ s. s.ports) same ∙ a.ports;
        config = ap (λ s. s.config) same ∙ a.config;
      }

  -- serving that ends between two batches was batches
  batches_are : (limit : Option ℕ) (result : Result Unit LoopFault) (count : ℕ) (old new : ServerState S) (before after : Traffic) → IsBetweenBatches result
      → ServesTo limit latest_in (Batched g) result count old new before after → AreBatches old new before after
  batches_are limit (Ok done) count old new before after between (inl s) =
      served_are limit count (record { server = old; clocks = s.clocks }) (record { server = new; clocks = s.goes.0 }) before s.begun after (clocks_asked s.clocks) s.asked s.goes.1
  batches_are limit (Ok done) count old new before after between (inr n) = absurd n.1
  batches_are limit (Err faults.Read) count old new before after between (inl s) =
      let e = s.goes in
      let a = served_are limit e.done (record { server = old; clocks = s.clocks }) e.mid before s.begun e.between (clocks_asked s.clocks) s.asked e.served in
      subst (λ (t : Traffic). AreBatches old new before t) (sym e.ends.1) (subst (λ (n : ServerState S). AreBatches old n before e.between) (sym e.ends.0) a)
  batches_are limit (Err faults.Read) count old new before after between (inr n) = absurd n.1
  batches_are limit (Err faults.Ahead) count old new before after between (inl s) =
      let e = s.goes in
      let a = served_are limit e.done (record { server = old; clocks = s.clocks }) e.mid before s.begun e.between (clocks_asked s.clocks) s.asked e.served in
      then_none old e.mid.server new before e.between after _ a e.ends.0 e.ends.1.passes
  batches_are limit (Err faults.Ahead) count old new before after between (inr n) = none_are old new before after _ n.0 n.1.2
  batches_are limit (Err faults.Record) count old new before after between s = absurd between
  batches_are limit (Err faults.Memory) count old new before after between s = absurd between
  batches_are limit (Err (faults.Serve fault)) count old new before after between s = absurd between
  batches_are limit (Err faults.Write) count old new before after between s = absurd between

  -- what a server serves is a history
  pub was_session : SessionsAreHistories g
  was_session session old new s = (
    record {
      events = flat_map events_in a.list;
      recordable = all_recordable a.list;
      answers = answers_in a.list;
      history = handled_history;
      recorded = grown_is s.before.recorded s.after.recorded session.recorded (flat_map record_of a.list) s.recorded a.passes.recorded_grows ∙ records_are a.list;
      logged = grown_is s.before.written s.after.written session.logged (flat_map texts_of a.list) s.logged a.passes.written_grows ∙ texts_are a.list;
    },
    record { ports_are = a.ports; config_is = a.config; rows_are = s.ends },
  )
    where
      a : AreBatches old new s.before s.after
      a = batches_are s.limit s.result s.count old new s.before s.after s.between s.serves

      from : past.History (StepsTo old.config old.ports) session.begins (flat_map events_in a.list) (flat_map handled_in a.list) session.ends
      from =
          subst (λ (rows : List Row). past.History (StepsTo old.config old.ports) rows (flat_map events_in a.list) (flat_map handled_in a.list) session.ends) s.begins
          (subst (λ (rows : List Row). past.History (StepsTo old.config old.ports) old.rows (flat_map events_in a.list) (flat_map handled_in a.list) rows) s.ends a.history)

      handled_history : past.History (StepsTo old.config old.ports) session.begins (flat_map events_in a.list) (map (λ x. x.handled) (answers_in a.list)) session.ends
      handled_history = subst (λ (list : List Handled). past.History (StepsTo old.config old.ports) session.begins (flat_map events_in a.list) list session.ends) (handled_are a.list) from

-- sessions that follow one another are one session
module _ (config : Configuration) (ports : Ports) where
  -- all that they recorded and logged, from the first rows to the last
  abbrev whole : List Row → List Session → List Row → Session
  whole rows sessions last =
      record { begins = rows; ends = last; recorded = flat_map (λ s. s.recorded) sessions; logged = flat_map (λ s. s.logged) sessions }

  joined_two : (rows last : List Row) (session : Session) (sessions : List Session) → session.begins ≡ rows → WasSession config ports session → WasSession config ports (whole session.ends sessions last)
      → WasSession config ports (whole rows (session ∷ sessions) last)
  joined_two rows last session sessions begins was rest = record {
    events = was.events ++ rest.events;
    recordable = All-append IsRecordable was.events rest.events was.recordable rest.recordable;
    answers = was.answers ++ rest.answers;
    history =
        subst (λ (list : List Handled). past.History (StepsTo config ports) rows (was.events ++ rest.events) list last) (sym (map-append (λ a. a.handled) was.answers rest.answers))
        (history_append (StepsTo config ports) was.events rest.events (map (λ a. a.handled) was.answers) (map (λ a. a.handled) rest.answers) rows session.ends last first rest.history);
    recorded = (λ i. was.recorded i ++ rest.recorded i) ∙ sym (flat_map-append record_line was.events rest.events);
    logged = (λ i. was.logged i ++ rest.logged i) ∙ sym (flat_map-append text_of was.answers rest.answers);
  }
    where
      first : past.History (StepsTo config ports) rows was.events (map (λ a. a.handled) was.answers) session.ends
      first = subst (λ (r : List Row). past.History (StepsTo config ports) r was.events (map (λ a. a.handled) was.answers) session.ends) begins was.history

  joined : (rows last : List Row) (sessions : List Session) → SessionsFollow config ports rows sessions last → WasSession config ports (whole rows sessions last)
  joined rows last [] same = record { events = []; recordable = All-nil IsRecordable; answers = []; history = same; recorded = refl; logged = refl }
  joined rows last (session ∷ sessions) follow = joined_two rows last session sessions follow.0 follow.1 (joined session.ends last sessions follow.2)

module _ (one : OneStep) {T : Type 0} (h : Ghosts T) where
  -- a replay of what was recorded in a session repeats it
  repeats : (config : Configuration) (ports : Ports) (session : Session) (its new : ServerState T) (text out : List ℕ) → WasSession config ports session → IsServerOver config ports session.begins its
      → Did (Steps h) (lines_of session.recorded) its new text out → GrowsByLog session.logged text out × IsServerOver config ports session.ends new
  repeats config ports session its new text out w at d = (
    record {
      more = flat_map (λ a. line_of a.handled) w.answers;
      grown = d.written ∙ ap (λ (l : List Handled). text ++ flat_map line_of l) same.0 ∙ ap (λ (l : List ℕ). text ++ l) (flat_map-map line_of (λ a. a.handled) w.answers);
      lines = sym (lines_left w.answers) ∙ ap (λ (l : List ℕ). without_send_faults (lines_of l)) (sym w.logged);
      answers = w.answers;
      log_is = w.logged;
      more_is = refl;
    },
    record { ports_are = steps.1; config_is = steps.2; rows_are = same.1 },
  )
    where
      spelled : AreEvents (lines_of session.recorded) w.events
      spelled = subst (λ (r : List ℕ). AreEvents (lines_of r) w.events) (sym w.recorded) (records_replay w.events w.recordable)

      events : d.events ≡ w.events
      events = one_list (lines_of session.recorded) d.events w.events d.spelled spelled

      steps : past.History (StepsTo config ports) its.rows d.events d.list new.rows × (new.ports ≡ ports) × (new.config ≡ config)
      steps = steps_are h config ports d.events d.list its new at.ports_are at.config_is d.history

      history : past.History (StepsTo config ports) session.begins w.events d.list new.rows
      history =
          subst (λ (es : List Event). past.History (StepsTo config ports) session.begins es d.list new.rows) events
          (subst (λ (rows : List Row). past.History (StepsTo config ports) rows d.events d.list new.rows) at.rows_are steps.0)

      same : (d.list ≡ map (λ a. a.handled) w.answers) × (new.rows ≡ session.ends)
      same = one_past one config ports w.events d.list (map (λ a. a.handled) w.answers) session.begins new.rows session.ends history w.history

  -- so does one of what was recorded in sessions that follow one another
  pub repeats_all : ReplayRepeatsSessions h
  repeats_all config ports rows last sessions its new text out f at d =
      repeats config ports (whole config ports rows sessions last) its new text out (joined config ports rows last sessions f) at d

  -- and over a server that is alike
  pub repeats_one : {S : Type 0} (g : Ghosts S) → ReplayRepeatsSession g h
  repeats_one g session old new its last text out s alike d =
      let was = was_session g session old new s in
      let at : IsServerOver old.config old.ports session.begins its = record { ports_are = sym alike.ports; config_is = sym alike.config; rows_are = sym alike.rows ∙ s.begins } in
      let e = repeats old.config old.ports session its last text out was.0 at d in
      (e.0, record { ports = was.1.ports_are ∙ sym e.1.ports_are; config = was.1.config_is ∙ sym e.1.config_is; rows = s.ends ∙ sym e.1.rows_are })

-- a replay that stops

record SplitEvents (before after : List (List ℕ)) (events : List Event) : Type 0 where
  first : List Event
  later : List Event
  all : events ≡ first ++ later
  before_are : AreEvents before first
  after_are : AreEvents after later

split_events : (before after : List (List ℕ)) (events : List Event) → AreEvents (before ++ after) events → SplitEvents before after events
split_events [] after events are = record { first = []; later = events; all = refl; before_are = tt; after_are = are }
split_events (line ∷ before) after [] are = absurd are
split_events (line ∷ before) after (event ∷ events) are =
    let s = split_events before after events are.1 in
    record { first = event ∷ s.first; later = s.later; all = ap (λ es. event ∷ es) s.all; before_are = (are.0, s.before_are); after_are = s.after_are }

record SplitHistory {H : Type 0} (gives : H → Event → Handled → H → Type 0) (old : H) (first later : List Event) (list : List Handled) (new : H) : Type 0 where
  early : List Handled
  late : List Handled
  mid : H
  all : list ≡ early ++ late
  before : past.History gives old first early mid
  after : past.History gives mid later late new

split_history : {H : Type 0} (gives : H → Event → Handled → H → Type 0) (old : H) (first later : List Event) (list : List Handled) (new : H) → past.History gives old (first ++ later) list new
    → SplitHistory gives old first later list new
split_history gives old [] later list new h = record { early = []; late = list; mid = old; all = refl; before = refl; after = h }
split_history gives old (event ∷ first) later [] new h = absurd h
split_history gives old (event ∷ first) later (x ∷ list) new h =
    let s = split_history gives h.0 first later list new h.2 in
    record { early = x ∷ s.early; late = s.late; mid = s.mid; all = ap (λ l. x ∷ l) s.all; before = (h.0, h.1, s.before); after = s.after }

-- the lines of the first events are written, and a prefix of the next lines
record WritesPrefix (early late : List Handled) (text out : List ℕ) : Type 0 where
  part : List ℕ
  rest : List ℕ
  written : out ≡ text ++ (flat_map line_of early ++ part)
  cut : flat_map line_of late ≡ part ++ rest

prefix_none : (early late : List Handled) (text between out : List ℕ) → between ≡ text ++ flat_map line_of early → out ≡ between → WritesPrefix early late text out
prefix_none early late text between out written same =
    record { part = []; rest = flat_map line_of late; written = same ∙ written ∙ ap (λ l. text ++ l) (sym (append-nil (flat_map line_of early))); cut = refl }

prefix_part : (early late : List Handled) (handled : Handled) (text between out part more : List ℕ) → between ≡ text ++ flat_map line_of early → line_of handled ≡ part ++ more → out ≡ between ++ part
    → WritesPrefix early (handled ∷ late) text out
prefix_part early late handled text between out part more written cut same = record {
  part = part;
  rest = more ++ flat_map line_of late;
  written = same ∙ ap (λ b. b ++ part) written ∙ append_assoc text (flat_map line_of early) part;
  cut = ap (λ l. l ++ flat_map line_of late) cut ∙ append_assoc part more (flat_map line_of late);
}

-- so it is a prefix of a log
prefix_of_log : (config : Configuration) (ports : Ports) (session : Session) (early late : List Handled) (text out : List ℕ) (w : WasSession config ports session)
    → map (λ a. a.handled) w.answers ≡ early ++ late → WritesPrefix early late text out → GrowsByPrefix session.logged text out
prefix_of_log config ports session early late text out w all f = record {
  more = flat_map line_of early ++ f.part;
  grown = f.written;
  rest = f.rest;
  whole = record {
    more = flat_map (λ a. line_of a.handled) w.answers;
    grown = ap (λ o. o ++ f.rest) f.written ∙ append_assoc text (flat_map line_of early ++ f.part) f.rest ∙ ap (λ l. text ++ l) (sym lines);
    lines = sym (lines_left w.answers) ∙ ap (λ (l : List ℕ). without_send_faults (lines_of l)) (sym w.logged);
    answers = w.answers;
    log_is = w.logged;
    more_is = refl;
  };
}
  where
    lines : flat_map (λ a. line_of a.handled) w.answers ≡ (flat_map line_of early ++ f.part) ++ f.rest
    lines =
        sym (flat_map-map line_of (λ a. a.handled) w.answers) ∙ ap (flat_map line_of) all ∙ flat_map-append line_of early late ∙ ap (λ l. flat_map line_of early ++ l) f.cut
        ∙ sym (append_assoc (flat_map line_of early) f.part f.rest)

module _ (one : OneStep) {T : Type 0} (h : Ghosts T) (config : Configuration) (ports : Ports) where
  -- where a replay stops it has written such a prefix, and it stops at no line that is not an event
  stopped : (failed : Type 0) (fault : ReplayFault) (number : ℕ) (after : List (List ℕ)) (later : List Event) (early late : List Handled) (mid new : ServerState T) (last : List Row)
      (text between out : List ℕ) → AreEvents after later → mid.ports ≡ ports → mid.config ≡ config → past.History (StepsTo config ports) mid.rows later late last
      → between ≡ text ++ flat_map line_of early → Ends (Steps h) (Refuses h) failed fault number after mid new between out
      → WritesPrefix early late text out × ((line : ℕ) → fault ≢ replaying.BadLine line)
  stopped failed (replaying.BadLine k) number [] later early late mid new last text between out are p c is written ends = absurd ends.1
  stopped failed (replaying.BadLine k) number (line ∷ after) [] early late mid new last text between out are p c is written ends = absurd are
  stopped failed (replaying.BadLine k) number (line ∷ after) (event ∷ later) early late mid new last text between out are p c is written ends = absurd (ends.1 event are.0)
  stopped failed (replaying.Serve fault) number after later early late mid new last text between out are p c is written ends = (prefix_none early late text between out written ends.1, λ line e. cc)
  stopped failed replaying.Read number after later early late mid new last text between out are p c is written ends = (prefix_none early late text between out written ends.2, λ line e. cc)
  stopped failed replaying.Memory number after later early late mid new last text between out are p c is written ends = (prefix_none early late text between out written ends.2, λ line e. cc)
  stopped failed replaying.Write number [] later early late mid new last text between out are p c is written ends = absurd ends
  stopped failed replaying.Write number (line ∷ after) [] early late mid new last text between out are p c is written ends = absurd are
  stopped failed replaying.Write number (line ∷ after) (event ∷ later) early [] mid new last text between out are p c is written ends = absurd is
  stopped failed replaying.Write number (line ∷ after) (event ∷ later) early (x ∷ late) mid new last text between out are p c is written ends =
      let events = one_event line ends.event event ends.spelled are.0 in
      let step : StepsTo config ports mid.rows event ends.handled new.rows =
      subst (λ (q : Configuration). StepsTo q ports mid.rows event ends.handled new.rows) c
      (subst (λ (q : Ports). StepsTo mid.config q mid.rows event ends.handled new.rows) p
      (subst (λ (e : Event). StepsTo mid.config mid.ports mid.rows e ends.handled new.rows) events ends.given.step)) in
      let same = one config ports mid.rows event ends.handled x new.rows is.0 step is.1 in
      (prefix_part early late x text between out ends.part ends.more written (ap line_of (sym same.0) ∙ ends.cut) ends.written, λ line e. cc)

  stops_session : (session : Session) (failed : Type 0) (fault : ReplayFault) (its new : ServerState T) (text out : List ℕ) (w : WasSession config ports session) → IsServerOver config ports session.begins its
      → (s : Stops (Steps h) (Refuses h) failed fault (lines_of session.recorded) its new text out) → GrowsByPrefix session.logged text out × ((line : ℕ) → fault ≢ replaying.BadLine line)
  stops_session session failed fault its new text out w at s = (prefix_of_log config ports session s.did.list parts.late text out w all ends.0, ends.1)
    where
      d : Did (Steps h) s.before its s.mid text s.between
      d = s.did

      spelled : AreEvents (s.before ++ s.after) w.events
      spelled = subst (λ (lines : List (List ℕ)). AreEvents lines w.events) s.all (subst (λ (r : List ℕ). AreEvents (lines_of r) w.events) (sym w.recorded) (records_replay w.events w.recordable))

      cut : SplitEvents s.before s.after w.events
      cut = split_events s.before s.after w.events spelled

      events : d.events ≡ cut.first
      events = one_list s.before d.events cut.first d.spelled cut.before_are

      parts : SplitHistory (StepsTo config ports) session.begins cut.first cut.later (map (λ a. a.handled) w.answers) session.ends
      parts = split_history (StepsTo config ports) session.begins cut.first cut.later (map (λ a. a.handled) w.answers) session.ends
          (subst (λ (es : List Event). past.History (StepsTo config ports) session.begins es (map (λ a. a.handled) w.answers) session.ends) cut.all w.history)

      steps : past.History (StepsTo config ports) its.rows d.events d.list s.mid.rows × (s.mid.ports ≡ ports) × (s.mid.config ≡ config)
      steps = steps_are h config ports d.events d.list its s.mid at.ports_are at.config_is d.history

      history : past.History (StepsTo config ports) session.begins cut.first d.list s.mid.rows
      history =
          subst (λ (es : List Event). past.History (StepsTo config ports) session.begins es d.list s.mid.rows) events
          (subst (λ (rows : List Row). past.History (StepsTo config ports) rows d.events d.list s.mid.rows) at.rows_are steps.0)

      same : (d.list ≡ parts.early) × (s.mid.rows ≡ parts.mid)
      same = one_past one config ports cut.first d.list parts.early session.begins s.mid.rows parts.mid history parts.before

      all : map (λ a. a.handled) w.answers ≡ d.list ++ parts.late
      all = parts.all ∙ ap (λ l. l ++ parts.late) (sym same.0)

      ends : WritesPrefix d.list parts.late text out × ((line : ℕ) → fault ≢ replaying.BadLine line)
      ends = stopped failed fault _ s.after cut.later d.list parts.late s.mid new session.ends text s.between out cut.after_are steps.1 steps.2
          (subst (λ (rows : List Row). past.History (StepsTo config ports) rows cut.later parts.late session.ends) (sym same.1) parts.after) d.written s.ends

-- so does one replay of what was recorded in sessions that follow one another
pub stops_on_the_way : OneStep → {T : Type 0} (h : Ghosts T) → ReplayStopsOnTheWay h
stops_on_the_way one h config ports rows last sessions failed fault its new text out follow at s =
    stops_session one h config ports (whole config ports rows sessions last) (failed ≡ true) fault its new text out (joined config ports rows last sessions follow) at s
