-- A life of a server is a history with stops: each event of a call is a step, or nothing happens at
-- it.
use Rattle.std.proofs.Common.{◌≡◌, ◌⊎◌, inl, inr, ⊎_elim, zero, suc, Bool, is_some, List, [], ◌∷◌, ◌++◌, Option, Some, None, Result, Ok, Err, true, false, refl, sym, ap, ◌∙◌, subst}
use Rattle.std.proofs.lemmas.Bool.{false≢true}
use Rattle.std.proofs.lemmas.Option.{none-some, same_Some}
use Rattle.std.specs.List.{slice_get}
use Rattle.kd_config.specs.Configuration.{Configuration}
use Rattle.kd_config.specs.Sound.{IsSound}
use Rattle.kd_event.specs.declared.event.Event.{Event}
use Rattle.kd_event.specs.declared.event.Handled.{Handled}
use Rattle.kd_event.specs.declared.ports.Ports.{Ports}
use Rattle.kd_keeps.specs.declared.keeps.Keeps.{Ghosts}
use Rattle.kd_lease.specs.Change.{Changes}
use Rattle.kd_loops.specs.History as past
use Rattle.kd_loops.specs.declared.fault.ServeFault.{ServeFault}
use Rattle.kd_loops.specs.declared.fault.ServeFault.TheVariants as faults
use Rattle.kd_rows.specs.Table.{latest_of}
use Rattle.kd_rows.specs.declared.row.Row.{Row}
use Rattle.kd_keeps.specs.declared.fault.StoreFault.{StoreFault}
use Rattle.kd_server.specs.Batch.{IsCommitted, IsLost, LeavesOut}
use Rattle.kd_server.specs.Server.{IsStopped, ServerState, Refuses, Steps, StepsTo, StoreHolds}
use Rattle.kd_laws.specs.Lives.{AreSteps, Call, CallAnswers, Called, IsDone, IsIdle, IsLeft, IsNoRun, IsRun, LivesAreHistories, LivesKeepConfigurations, Opening, OpeningsAreHistories, OpeningsEnd, Report, RunsAreCalls, calls_of, reports, reports_of}
use Rattle.kd_laws.specs.Lives.Call.{one, batch}
use Rattle.kd_laws.specs.NoOverlap.{AreOfOne, HistoryTo, LeaseHistory, LeaseStep, now_of}
use Rattle.kd_server.specs.Step.{IsAnswered, IsUnreadable}

-- what is known of events is steps from these rows to those
record Told (config : Configuration) (ports : Ports) (rows : List Row) (known : List Report) (last : List Row) : Type 0 where
  steps : List LeaseStep
  history : HistoryTo rows steps last
  are : AreSteps config ports known steps

-- steps after steps
followed : (rows : List Row) (es : List LeaseStep) (last : List Row) (fs : List LeaseStep)
    → HistoryTo rows es last → LeaseHistory last fs → LeaseHistory rows (es ++ fs)
followed rows [] last fs h k = subst (λ (r : List Row). LeaseHistory r fs) h k
followed rows (e ∷ es) last fs h k = (h.0, h.1, followed e.after es last fs h.2 k)

-- an event at which nothing happens, before others
idle_first : (config : Configuration) (ports : Ports) (r : Report) (known : List Report) (es : List LeaseStep) → IsIdle r.in_batch r.event r.answer
    → AreSteps config ports known es → AreSteps config ports (r ∷ known) es
idle_first config ports r known [] idle are = (idle, are)
idle_first config ports r known (e ∷ es) idle are = inl (idle, are)

module _ (config : Configuration) (ports : Ports) where
  -- an event at which nothing happens, before the reports of others
  idle_told : (rows : List Row) (r : Report) (known : List Report) (last : List Row) → IsIdle r.in_batch r.event r.answer
      → Told config ports rows known last → Told config ports rows (r ∷ known) last
  idle_told rows r known last idle t = record { steps = t.steps; history = t.history; are = idle_first config ports r known t.steps idle t.are }

  -- an event that is answered, before the reports of others
  step_told : (rows next last : List Row) (event : Event) (handled : Handled) (in_batch : Bool) (known : List Report) → StepsTo config ports rows event handled next
      → Told config ports next known last → Told config ports rows (record { event = event; answer = Ok handled; in_batch = in_batch } ∷ known) last
  step_told rows next last event handled in_batch known step later = ⊎_elim unread read step.done where
    r : Report
    r = record { event = event; answer = Ok handled; in_batch = in_batch }

    unread : IsUnreadable latest_of (Changes config) ports rows event handled.response next → Told config ports rows (r ∷ known) last
    unread u = record {
      steps = later.steps;
      history = subst (λ (l : List Row). HistoryTo l later.steps last) u.table later.history;
      are = idle_first config ports r known later.steps (u.unreadable, u.quiet) later.are;
    }

    read : IsAnswered latest_of (Changes config) ports rows event handled.now handled.response next → Told config ports rows (r ∷ known) last
    read w =
        let e : LeaseStep = record { config = config; moment = event.moment; message = w.message; before = rows; after = next; outcome = Some w.outcome } in
        record {
          steps = e ∷ later.steps;
          history = (refl, subst (λ now. Changes config rows w.message now next w.outcome) step.now w.changes, later.history);
          are = inr (record { config_is = refl; moment = refl; reads = w.reads; answer = (step.now, (w.outcome, refl, w.responds)) }, later.are);
        }

  -- an event of a batch whose commit has failed, before the reports of others: its step was stopped
  stop_told : (rows next last : List Row) (event : Event) (handled : Handled) (why : StoreFault) (known : List Report) → StepsTo config ports rows event handled next
      → Told config ports next known last → Told config ports rows (record { event = event; answer = Err (faults.Store why); in_batch = true } ∷ known) last
  stop_told rows next last event handled why known step later = ⊎_elim unread read step.done where
    r : Report
    r = record { event = event; answer = Err (faults.Store why); in_batch = true }

    unread : IsUnreadable latest_of (Changes config) ports rows event handled.response next → Told config ports rows (r ∷ known) last
    unread u = record {
      steps = later.steps;
      history = subst (λ (l : List Row). HistoryTo l later.steps last) u.table later.history;
      are = idle_first config ports r known later.steps refl later.are;
    }

    read : IsAnswered latest_of (Changes config) ports rows event handled.now handled.response next → Told config ports rows (r ∷ known) last
    read w =
        let e : LeaseStep = record { config = config; moment = event.moment; message = w.message; before = rows; after = next; outcome = None } in
        record {
          steps = e ∷ later.steps;
          history = (refl, inr (w.outcome, subst (λ now. Changes config rows w.message now next w.outcome) step.now w.changes), later.history);
          are = inr (record { config_is = refl; moment = refl; reads = w.reads; answer = refl }, later.are);
        }

  -- events that have a history, before the reports of the others
  history_told : (done after : List Event) (list : List Handled) (fault : Option ServeFault) (known : List Report) (rows mid last : List Row)
      → past.History (StepsTo config ports) rows done list mid → Told config ports mid (reports_of after [] fault ++ known) last
      → Told config ports rows (reports_of (done ++ after) list fault ++ known) last
  history_told [] after [] fault known rows mid last h t = subst (λ (l : List Row). Told config ports l (reports_of after [] fault ++ known) last) h t
  history_told (event ∷ done) after (handled ∷ list) fault known rows mid last h t =
      step_told rows h.0 last event handled true _ h.1 (history_told done after list fault known h.0 mid last h.2 t)
  history_told [] after (handled ∷ list) fault known rows mid last h t = absurd h
  history_told (event ∷ done) after [] fault known rows mid last h t = absurd h

  -- how a batch ends, before the reports of later events
  ending_told : (fault : Option ServeFault) (after : List Event) (list : List Handled) (known : List Report) (mid new last : List Row)
      → past.Halts LeavesOut fault after list mid new → Told config ports new known last → Told config ports mid (reports_of after [] fault ++ known) last
  ending_told None [] list known mid new last same t = subst (λ (l : List Row). Told config ports l known last) same t
  ending_told None (event ∷ after) list known mid new last h t = absurd h
  ending_told (Some fault) [] list known mid new last n t = subst (λ (l : List Row). Told config ports l known last) n.same t
  ending_told (Some faults.MomentTooLarge) (event ∷ after) list known mid new last (inl out) t =
      idle_told mid _ known last tt (subst (λ (l : List Row). Told config ports l known last) out.1 t)
  ending_told (Some faults.Memory) (event ∷ after) list known mid new last (inl out) t =
      idle_told mid _ known last tt (subst (λ (l : List Row). Told config ports l known last) out.2 t)
  ending_told (Some (faults.Store why)) (event ∷ after) list known mid new last (inl out) t = absurd out
  ending_told (Some faults.Failed) (event ∷ after) list known mid new last (inl out) t = absurd out
  ending_told (Some faults.MomentTooLarge) (event ∷ after) list known mid new last (inr n) t = absurd (let e = n.want in cc)
  ending_told (Some faults.Memory) (event ∷ after) list known mid new last (inr n) t =
      idle_told mid _ known last tt (subst (λ (l : List Row). Told config ports l known last) n.same t)
  ending_told (Some (faults.Store why)) (event ∷ after) list known mid new last (inr n) t = absurd (let e = n.want in cc)
  ending_told (Some faults.Failed) (event ∷ after) list known mid new last (inr n) t = absurd (let e = n.want in cc)

  -- nothing happens at events whose commit has failed
  all_idle : (events : List Event) (why : StoreFault) (known : List Report) → AreSteps config ports known []
      → AreSteps config ports (reports_of events [] (Some (faults.Store why)) ++ known) []
  all_idle [] why known none = none
  all_idle (event ∷ events) why known none = (refl, all_idle events why known none)

  -- or the steps of those that have a history were stopped
  all_stopped : (done after : List Event) (list : List Handled) (why : StoreFault) (known : List Report) (rows mid : List Row)
      → past.History (StepsTo config ports) rows done list mid → AreSteps config ports known []
      → Told config ports rows (reports_of (done ++ after) [] (Some (faults.Store why)) ++ known) mid
  all_stopped [] after [] why known rows mid h none = record { steps = []; history = h; are = all_idle after why known none }
  all_stopped (event ∷ done) after (handled ∷ list) why known rows mid h none =
      stop_told rows h.0 mid event handled why _ h.1 (all_stopped done after list why known h.0 mid h.2 none)
  all_stopped [] after (handled ∷ list) why known rows mid h none = absurd h
  all_stopped (event ∷ done) after [] why known rows mid h none = absurd h

-- the rows after a batch are those after its history
halted_rows : (fault : Option ServeFault) (after : List Event) (list : List Handled) (mid new : List Row) → past.Halts LeavesOut fault after list mid new → new ≡ mid
halted_rows None [] list mid new same = same
halted_rows None (event ∷ after) list mid new h = absurd h
halted_rows (Some fault) [] list mid new n = n.same
halted_rows (Some faults.MomentTooLarge) (event ∷ after) list mid new (inl out) = out.1
halted_rows (Some faults.Memory) (event ∷ after) list mid new (inl out) = out.2
halted_rows (Some (faults.Store why)) (event ∷ after) list mid new (inl out) = absurd out
halted_rows (Some faults.Failed) (event ∷ after) list mid new (inl out) = absurd out
halted_rows (Some fault) (event ∷ after) list mid new (inr n) = n.same

-- nothing happens in a batch of a server whose store had failed
failed_idle : (config : Configuration) (ports : Ports) (events : List Event) (known : List Report) (es : List LeaseStep) → AreSteps config ports known es
    → AreSteps config ports (reports_of events [] (Some faults.Failed) ++ known) es
failed_idle config ports [] known es are = are
failed_idle config ports (event ∷ events) known es are =
    idle_first config ports (record { event = event; answer = Err faults.Failed; in_batch = true }) known es tt are

module _ {S : Type 0} (g : Ghosts S) where
  -- if the disk is clean after a call, it was clean before
  clean_before : (old new : ServerState S) (call : Call) → CallAnswers g old call new → g.has_clean_disk new.store → g.has_clean_disk old.store
  clean_before old new (one event (Ok handled)) a clean = a.store.clean clean
  clean_before old new (one event (Err faults.MomentTooLarge)) a clean = subst (λ (s : ServerState S). g.has_clean_disk s.store) a.2 clean
  clean_before old new (one event (Err faults.Memory)) a clean = subst (λ (s : ServerState S). g.has_clean_disk s.store) a.3 clean
  clean_before old new (one event (Err (faults.Store fault))) a clean = a.store.clean clean
  clean_before old new (one event (Err faults.Failed)) a clean = subst (λ (s : ServerState S). g.has_clean_disk s.store) a.1 clean
  clean_before old new (batch events list None) a clean = a.store.clean clean
  clean_before old new (batch events list (Some faults.MomentTooLarge)) a clean = a.store.clean clean
  clean_before old new (batch events list (Some faults.Memory)) a clean = a.store.clean clean
  clean_before old new (batch events list (Some (faults.Store fault))) a clean = a.store.clean clean
  clean_before old new (batch events list (Some faults.Failed)) a clean = subst (λ (s : ServerState S). g.has_clean_disk s.store) a.2 clean

  -- if the disk is clean after calls, it was clean before
  clean_first : (calls : List Call) (old new : ServerState S) → Called g old calls new → g.has_clean_disk new.store → g.has_clean_disk old.store
  clean_first [] old new same clean = subst (λ (s : ServerState S). g.has_clean_disk s.store) same clean
  clean_first (call ∷ calls) old new c clean = clean_before old c.0 call c.1 (clean_first calls c.0 new c.2 clean)

  -- a server whose store has failed answers Failed, and nothing happens
  stuck : (old new : ServerState S) (call : Call) → is_some (g.fault old.store) ≡ true → CallAnswers g old call new
      → (new ≡ old) × ((config : Configuration) (ports : Ports) (calls : List Call) → AreSteps config ports (reports calls) [] → AreSteps config ports (reports (call ∷ calls)) [])
  stuck old new (one event (Ok handled)) failed a = absurd (false≢true (sym a.worked ∙ failed))
  stuck old new (one event (Err faults.MomentTooLarge)) failed a = absurd (false≢true (sym a.0 ∙ failed))
  stuck old new (one event (Err faults.Memory)) failed a = absurd (false≢true (sym a.0 ∙ failed))
  stuck old new (one event (Err (faults.Store fault))) failed a = absurd (false≢true (sym a.worked ∙ failed))
  stuck old new (one event (Err faults.Failed)) failed a = (a.1, λ config ports calls none. (tt, none))
  stuck old new (batch events list None) failed a = absurd (false≢true (sym a.worked ∙ failed))
  stuck old new (batch events list (Some faults.MomentTooLarge)) failed a = absurd (false≢true (sym a.worked ∙ failed))
  stuck old new (batch events list (Some faults.Memory)) failed a = absurd (false≢true (sym a.worked ∙ failed))
  stuck old new (batch events list (Some (faults.Store fault))) failed a = absurd (false≢true (sym a.worked ∙ failed))
  stuck old new (batch events list (Some faults.Failed)) failed a = (
    a.2,
    λ config ports calls none.
        subst (λ (l : List Handled). AreSteps config ports (reports_of events l (Some faults.Failed) ++ reports calls) []) (sym a.1)
        (failed_idle config ports events (reports calls) [] none),
  )

  -- so do all later calls
  stuck_all : (config : Configuration) (ports : Ports) (calls : List Call) (old new : ServerState S) → is_some (g.fault old.store) ≡ true → Called g old calls new
      → (new ≡ old) × AreSteps config ports (reports calls) []
  stuck_all config ports [] old new failed same = (same, refl)
  stuck_all config ports (call ∷ calls) old new failed c =
      let first = stuck old c.0 call failed c.1 in
      let later = stuck_all config ports calls c.0 new (ap (λ (s : ServerState S). is_some (g.fault s.store)) first.0 ∙ failed) c.2 in
      (later.0 ∙ first.0, first.1 config ports calls later.1)

  -- the rows that are found after calls: those of the server, or rows that a crash leaves
  abbrev IsFound : ServerState S → List Row → Type 0
  IsFound new last = (last ≡ new.rows) ⊎ IsLeft g new.store last

  -- the reports of calls on a server, whatever is found after them
  abbrev Tells : ServerState S → List Call → ServerState S → Type 0
  Tells old calls new = (last : List Row) → IsFound new last → Told old.config old.ports old.rows (reports calls) last

  -- the reports from a server with the same configuration and ports
  from : (old mid : ServerState S) (known : List Report) (last : List Row) → mid.ports ≡ old.ports → mid.config ≡ old.config
      → Told mid.config mid.ports mid.rows known last → Told old.config old.ports mid.rows known last
  from old mid known last ports config t = subst (λ (c : Configuration). Told c old.ports mid.rows known last) config
      (subst (λ (p : Ports). Told mid.config p mid.rows known last) ports t)

  -- the step of an answer comes before those of later calls
  answered : (old mid new : ServerState S) (event : Event) (handled : Handled) (calls : List Call) → Steps g old event handled mid
      → Tells mid calls new → Tells old (one event (Ok handled) ∷ calls) new
  answered old mid new event handled calls a tells last found =
      step_told old.config old.ports old.rows mid.rows last event handled false (reports calls) a.step
      (from old mid (reports calls) last a.ports a.config (tells last found))

  -- a stopped step is the last in which something happens: it leaves the rows before it, or those
  -- after
  stopped : (old mid new : ServerState S) (event : Event) (why : StoreFault) (stop : IsStopped g why old event mid) (calls : List Call) → new ≡ mid
      → AreSteps old.config old.ports (reports calls) [] → g.has_clean_disk mid.store → StoreHolds g old.store old.rows → (last : List Row) → IsFound new last
      → Told old.config old.ports old.rows (reports (one event (Err (faults.Store why)) ∷ calls)) last
  stopped old mid new event why stop calls same none clean holds last found = ⊎_elim unread read stop.step.done where
    known : List Report
    known = reports (one event (Err (faults.Store why)) ∷ calls)

    unread : IsUnreadable latest_of (Changes old.config) old.ports old.rows event stop.handled.response stop.after → Told old.config old.ports old.rows known last
    unread u = absurd (stop.store.changed u.table)

    either : (last ≡ old.rows) ⊎ (last ≡ stop.after)
    either = ⊎_elim
        (λ rows. inl (rows ∙ ap (λ (s : ServerState S). s.rows) same ∙ stop.same.rows))
        (λ left. left old.rows stop.after (subst (λ (s : ServerState S). g.leaves s.store old.rows stop.after) (sym same) (stop.store.left clean holds)))
        found

    read : IsAnswered latest_of (Changes old.config) old.ports old.rows event stop.handled.now stop.handled.response stop.after → Told old.config old.ports old.rows known last
    read w =
        let e : LeaseStep = record { config = old.config; moment = event.moment; message = w.message; before = old.rows; after = last; outcome = None } in
        let changes = subst (λ now. Changes old.config old.rows w.message now stop.after w.outcome) stop.step.now w.changes in
        record {
          steps = e ∷ [];
          history = (refl, ⊎_elim inl (λ after. inr (w.outcome, subst (λ (r : List Row). Changes old.config old.rows w.message (now_of e) r w.outcome) (sym after) changes)) either, refl);
          are = inr (record { config_is = refl; moment = refl; reads = w.reads; answer = refl }, none);
        }

  -- the reports of calls after one that changed nothing
  unchanged : (old mid new : ServerState S) (event : Event) (answer : Result Handled ServeFault) (calls : List Call) → IsIdle false event answer → mid ≡ old → Tells mid calls new
      → Tells old (one event answer ∷ calls) new
  unchanged old mid new event answer calls idle same tells last found =
      idle_told old.config old.ports old.rows _ (reports calls) last idle (subst (λ (s : ServerState S). Told s.config s.ports s.rows (reports calls) last) same (tells last found))

  -- the reports of a batch that was committed, and of later calls
  committed : (old mid new : ServerState S) (events : List Event) (list : List Handled) (fault : Option ServeFault) (calls : List Call)
      → IsCommitted g old events list fault mid → Tells mid calls new → Tells old (batch events list fault ∷ calls) new
  committed old mid new events list fault calls a tells last found =
      let r = a.runs in
      let later = from old mid (reports calls) last a.ports a.config (tells last found) in
      let ended = ending_told old.config old.ports fault r.after list (reports calls) r.mid mid.rows last r.halts later in
      subst (λ (all : List Event). Told old.config old.ports old.rows (reports_of all list fault ++ reports calls) last) (sym r.all)
      (history_told old.config old.ports r.done r.after list fault (reports calls) old.rows r.mid last r.history ended)

  -- the reports of a batch whose commit has failed: the rows before it are left, or those after it
  lost : (old mid new : ServerState S) (events : List Event) (list : List Handled) (why : StoreFault) (calls : List Call) → IsLost g why old events list mid → new ≡ mid
      → AreSteps old.config old.ports (reports calls) [] → g.has_clean_disk mid.store → StoreHolds g old.store old.rows → (last : List Row) → IsFound new last
      → Told old.config old.ports old.rows (reports (batch events list (Some (faults.Store why)) ∷ calls)) last
  lost old mid new events list why calls a same none clean holds last found =
      subst (λ (l : List Handled). Told old.config old.ports old.rows (reports_of events l (Some (faults.Store why)) ++ reports calls) last) (sym a.none)
      (⊎_elim before after either) where
        either : (last ≡ old.rows) ⊎ (last ≡ mid.rows)
        either = ⊎_elim
            (λ rows. inr (rows ∙ ap (λ (s : ServerState S). s.rows) same))
            (λ left. left old.rows mid.rows (subst (λ (s : ServerState S). g.leaves s.store old.rows mid.rows) (sym same) (a.store.left clean holds)))
            found

        before : last ≡ old.rows → Told old.config old.ports old.rows (reports_of events [] (Some (faults.Store why)) ++ reports calls) last
        before rows = record { steps = []; history = rows; are = all_idle old.config old.ports events why (reports calls) none }

        after : last ≡ mid.rows → Told old.config old.ports old.rows (reports_of events [] (Some (faults.Store why)) ++ reports calls) last
        after rows =
            let r = a.runs in
            let all = all_stopped old.config old.ports r.done r.after a.handled why (reports calls) old.rows r.mid r.history none in
            let ends : last ≡ r.mid = rows ∙ halted_rows a.ending r.after a.handled r.mid mid.rows r.halts in
            subst (λ (l : List Row). Told old.config old.ports old.rows (reports_of events [] (Some (faults.Store why)) ++ reports calls) l) (sym ends)
            (subst (λ (es : List Event). Told old.config old.ports old.rows (reports_of es [] (Some (faults.Store why)) ++ reports calls) r.mid) (sym r.all) all)

  -- the reports of a batch of a server whose store had failed, and of later calls
  not_begun : (old mid new : ServerState S) (events : List Event) (list : List Handled) (calls : List Call) → list ≡ [] → mid ≡ old → Tells mid calls new
      → Tells old (batch events list (Some faults.Failed) ∷ calls) new
  not_begun old mid new events list calls none same tells last found =
      let later : Told old.config old.ports old.rows (reports calls) last = subst (λ (s : ServerState S). Told s.config s.ports s.rows (reports calls) last) same (tells last found) in
      subst (λ (l : List Handled). Told old.config old.ports old.rows (reports_of events l (Some faults.Failed) ++ reports calls) last) (sym none)
      (record { steps = later.steps; history = later.history; are = failed_idle old.config old.ports events (reports calls) later.steps later.are })

  -- the reports of a call and of those after it
  first : (old mid new : ServerState S) (call : Call) (calls : List Call) → CallAnswers g old call mid
      → Called g mid calls new → g.has_clean_disk mid.store → StoreHolds g old.store old.rows → (StoreHolds g mid.store mid.rows → Tells mid calls new)
      → Tells old (call ∷ calls) new
  first old mid new (one event (Ok handled)) calls a later clean holds tells = answered old mid new event handled calls a (tells (a.store.holds clean holds))
  first old mid new (one event (Err faults.MomentTooLarge)) calls a later clean holds tells =
      unchanged old mid new event (Err faults.MomentTooLarge) calls tt a.2 (tells (subst (λ (s : ServerState S). StoreHolds g s.store s.rows) (sym a.2) holds))
  first old mid new (one event (Err faults.Memory)) calls a later clean holds tells =
      unchanged old mid new event (Err faults.Memory) calls tt a.3 (tells (subst (λ (s : ServerState S). StoreHolds g s.store s.rows) (sym a.3) holds))
  first old mid new (one event (Err (faults.Store fault))) calls a later clean holds tells = λ last found.
      let rest = stuck_all old.config old.ports calls mid new (ap is_some a.store.failed) later in
      stopped old mid new event fault a calls rest.0 rest.1 clean holds last found
  first old mid new (one event (Err faults.Failed)) calls a later clean holds tells =
      unchanged old mid new event (Err faults.Failed) calls tt a.1 (tells (subst (λ (s : ServerState S). StoreHolds g s.store s.rows) (sym a.1) holds))
  first old mid new (batch events list None) calls a later clean holds tells = committed old mid new events list None calls a (tells (a.store.holds clean holds))
  first old mid new (batch events list (Some faults.MomentTooLarge)) calls a later clean holds tells =
      committed old mid new events list (Some faults.MomentTooLarge) calls a (tells (a.store.holds clean holds))
  first old mid new (batch events list (Some faults.Memory)) calls a later clean holds tells =
      committed old mid new events list (Some faults.Memory) calls a (tells (a.store.holds clean holds))
  first old mid new (batch events list (Some (faults.Store fault))) calls a later clean holds tells = λ last found.
      let rest = stuck_all old.config old.ports calls mid new (ap is_some a.store.failed) later in
      lost old mid new events list fault calls a rest.0 rest.1 clean holds last found
  first old mid new (batch events list (Some faults.Failed)) calls a later clean holds tells =
      not_begun old mid new events list calls a.1 a.2 (tells (subst (λ (s : ServerState S). StoreHolds g s.store s.rows) (sym a.2) holds))

  -- the reports of all calls
  all : (calls : List Call) (old new : ServerState S) → Called g old calls new → g.has_clean_disk new.store → StoreHolds g old.store old.rows → Tells old calls new
  all [] old new same clean holds = λ last found. record {
    steps = [];
    history = ⊎_elim
        (λ rows. rows ∙ ap (λ (s : ServerState S). s.rows) same)
        (λ left. ⊎_elim (λ e. e) (λ e. e) (left old.rows old.rows (subst (λ (s : ServerState S). g.leaves s.store old.rows old.rows) (sym same) holds.leaves)))
        found;
    are = refl;
  }
  all (call ∷ calls) old new c clean holds =
      let mid_clean = clean_first calls c.0 new c.2 clean in
      first old c.0 new call calls c.1 c.2 mid_clean holds (all calls c.0 new c.2 clean)

  -- the reports of a server that was run over a store
  ran : (o : Opening) (store left : S) → g.stands store o.rows → g.has_clean_disk left → (r : IsRun g o.config o.ports o.calls store left) → (last : List Row)
      → (last ≡ r.last.rows) ⊎ IsLeft g left last → Told o.config o.ports o.rows (reports o.calls) last
  ran o store left stands clean r last found =
      let last_clean : g.has_clean_disk r.last.store = subst g.has_clean_disk r.left_is clean in
      let opened = r.opens.holds (clean_first o.calls r.first r.last r.called last_clean) o.rows stands in
      let holds : StoreHolds g r.first.store r.first.rows = subst (StoreHolds g r.first.store) (sym opened.0) opened.1 in
      let told = all o.calls r.first r.last r.called last_clean holds last (subst (λ (s : S). (last ≡ r.last.rows) ⊎ IsLeft g s last) r.left_is found) in
      subst (λ (c : Configuration). Told c o.ports o.rows (reports o.calls) last) r.opens.config_is
      (subst (λ (p : Ports). Told r.first.config p o.rows (reports o.calls) last) r.opens.ports_are
      (subst (λ (rows : List Row). Told r.first.config r.first.ports rows (reports o.calls) last) opened.0 told))

  -- the reports if no server was opened
  not_run : (o : Opening) (store left : S) → IsNoRun g o.config o.calls store left → (last : List Row) → last ≡ o.rows → Told o.config o.ports o.rows (reports o.calls) last
  not_run o store left n last same = subst (λ (calls : List Call). Told o.config o.ports o.rows (reports calls) last) (sym n.none) (record { steps = []; history = same; are = refl })

  -- the reports of an opening, if a crash leaves these rows
  told_left : (o : Opening) (store left : S) → g.stands store o.rows → g.has_clean_disk left → IsDone g o.config o.ports o.calls store left → (last : List Row)
      → IsLeft g left last → Told o.config o.ports o.rows (reports o.calls) last
  told_left o store left stands clean done last found = ⊎_elim
      (λ r. ran o store left stands clean r last (inr found))
      (λ n. not_run o store left n last (⊎_elim (λ e. e) (λ e. e) (found o.rows o.rows (n.unopened.left clean o.rows stands))))
      done

  -- the reports of an opening after which no rows are found
  told_last : (o : Opening) (store left : S) → g.stands store o.rows → g.has_clean_disk left → IsDone g o.config o.ports o.calls store left
      → (last : List Row) × Told o.config o.ports o.rows (reports o.calls) last
  told_last o store left stands clean done = ⊎_elim
      (λ r. (r.last.rows, ran o store left stands clean r r.last.rows (inl refl)))
      (λ n. (o.rows, not_run o store left n o.rows refl))
      done

  -- if an opening has calls, its configuration obeys all limits
  sound_of : (o : Opening) (store left : S) → IsDone g o.config o.ports o.calls store left → (o.calls ≡ []) ⊎ IsSound o.config
  sound_of o store left done = ⊎_elim (λ r. inr r.opens.sound) (λ n. inl n.none) done

  -- an opening was a history
  pub openings : OpeningsAreHistories g
  openings o None is =
      let e = told_last o is.store is.left is.stands is.clean is.done in
      record { sound = sound_of o is.store is.left is.done; steps = e.1.steps; last = e.0; history = e.1.history; are = e.1.are; found = λ rows none. absurd (none-some rows none) }
  openings o (Some rows) is =
      let e = told_left o is.store is.left is.stands is.clean is.done rows (is.found rows refl) in
      record { sound = sound_of o is.store is.left is.done; steps = e.steps; last = rows; history = e.history; are = e.are; found = λ other same. same_Some rows other same }

  -- a crash of a store leaves one of two tables
  abbrev Leaves : ServerState S → Type 0
  Leaves s = (before : List Row) × (after : List Row) × g.leaves s.store before after

  -- the same after a call and those after it
  ends_one : (old mid new : ServerState S) (call : Call) (calls : List Call) → CallAnswers g old call mid
      → Called g mid calls new → g.has_clean_disk mid.store → StoreHolds g old.store old.rows → (StoreHolds g mid.store mid.rows → Leaves new) → Leaves new
  ends_one old mid new (one event (Ok handled)) calls a later clean holds ends = ends (a.store.holds clean holds)
  ends_one old mid new (one event (Err faults.MomentTooLarge)) calls a later clean holds ends = ends (subst (λ (s : ServerState S). StoreHolds g s.store s.rows) (sym a.2) holds)
  ends_one old mid new (one event (Err faults.Memory)) calls a later clean holds ends = ends (subst (λ (s : ServerState S). StoreHolds g s.store s.rows) (sym a.3) holds)
  ends_one old mid new (one event (Err (faults.Store fault))) calls a later clean holds ends =
      let rest = stuck_all old.config old.ports calls mid new (ap is_some a.store.failed) later in
      subst Leaves (sym rest.0) (old.rows, a.after, a.store.left clean holds)
  ends_one old mid new (one event (Err faults.Failed)) calls a later clean holds ends = ends (subst (λ (s : ServerState S). StoreHolds g s.store s.rows) (sym a.1) holds)
  ends_one old mid new (batch events list None) calls a later clean holds ends = ends (a.store.holds clean holds)
  ends_one old mid new (batch events list (Some faults.MomentTooLarge)) calls a later clean holds ends = ends (a.store.holds clean holds)
  ends_one old mid new (batch events list (Some faults.Memory)) calls a later clean holds ends = ends (a.store.holds clean holds)
  ends_one old mid new (batch events list (Some (faults.Store fault))) calls a later clean holds ends =
      let rest = stuck_all old.config old.ports calls mid new (ap is_some a.store.failed) later in
      subst Leaves (sym rest.0) (old.rows, mid.rows, a.store.left clean holds)
  ends_one old mid new (batch events list (Some faults.Failed)) calls a later clean holds ends = ends (subst (λ (s : ServerState S). StoreHolds g s.store s.rows) (sym a.2) holds)

  -- and after all calls
  ends_all : (calls : List Call) (old new : ServerState S) → Called g old calls new → g.has_clean_disk new.store → StoreHolds g old.store old.rows → Leaves new
  ends_all [] old new same clean holds = subst Leaves (sym same) (old.rows, old.rows, holds.leaves)
  ends_all (call ∷ calls) old new c clean holds =
      ends_one old c.0 new call calls c.1 c.2 (clean_first calls c.0 new c.2 clean) holds (ends_all calls c.0 new c.2 clean)

  -- an opening ends in this way
  pub ends : OpeningsEnd g
  ends config ports calls store left (inl r) clean =
      let last_clean : g.has_clean_disk r.last.store = subst g.has_clean_disk r.left_is clean in
      let first_clean = clean_first calls r.first r.last r.called last_clean in (
        r.opens.clean first_clean,
        λ table stands.
            let opened = r.opens.holds first_clean table stands in
            let two = ends_all calls r.first r.last r.called last_clean (subst (StoreHolds g r.first.store) (sym opened.0) opened.1) in
            (two.0, two.1, subst (λ (s : S). g.leaves s two.0 two.1) (sym r.left_is) two.2),
      )
  ends config ports calls store left (inr n) clean = (n.unopened.clean clean, λ table stands. (table, table, n.unopened.left clean table stands))

  -- events with their history are calls, before those of the events after them
  called_before : (done after : List Event) (list : List Handled) (fault : Option ServeFault) (old mid new : ServerState S)
      → past.History (Steps g) old done list mid → Called g mid (calls_of after [] fault) new → Called g old (calls_of (done ++ after) list fault) new
  called_before [] after [] fault old mid new same c = subst (λ (s : ServerState S). Called g s (calls_of after [] fault) new) same c
  called_before (event ∷ done) after (handled ∷ list) fault old mid new h c = (h.0, h.1, called_before done after list fault h.0 mid new h.2 c)
  called_before [] after (handled ∷ list) fault old mid new h c = absurd h
  called_before (event ∷ done) after [] fault old mid new h c = absurd h

  is_none : List Handled → Bool
  is_none [] = true
  is_none (handled ∷ list) = false

  -- a history in which nothing was done
  none_done : (done : List Event) (list : List Handled) (old mid : ServerState S) → list ≡ [] → past.History (Steps g) old done list mid → mid ≡ old
  unfolding is_none
  none_done [] [] old mid none h = h
  none_done (event ∷ done) (handled ∷ list) old mid none h = absurd (false≢true (ap is_none none))
  none_done [] (handled ∷ list) old mid none h = absurd h
  none_done (event ∷ done) [] old mid none h = absurd h

  -- how a run ends, as calls after its history
  halted : (done after : List Event) (list : List Handled) (fault : Option ServeFault) (old mid new : ServerState S)
      → past.History (Steps g) old done list mid → past.Halts (Refuses g) fault after list mid new
      → Called g old (calls_of (done ++ after) list fault) new ⊎ past.NoMemory faults.Memory list old new
  halted done [] list None old mid new h halts = inl (called_before done [] list None old mid new h halts)
  halted done (event ∷ after) list None old mid new h halts = absurd halts
  halted done [] list (Some fault) old mid new h halts =
      inr (record { want = refl; none = halts.none; same = halts.same ∙ none_done done list old mid halts.none h })
  halted done (event ∷ after) list (Some fault) old mid new h (inl fails) =
      inl (called_before done (event ∷ after) list (Some fault) old mid new h (new, fails, refl))
  halted done (event ∷ after) list (Some fault) old mid new h (inr no_memory) =
      inr (record { want = refl; none = no_memory.none; same = no_memory.same ∙ none_done done list old mid no_memory.none h })

  -- a run is calls
  pub runs : RunsAreCalls g
  runs events list fault old new r =
      subst (λ (all : List Event). Called g old (calls_of all list fault) new ⊎ past.NoMemory faults.Memory list old new) (sym r.all)
      (halted r.done r.after list fault old r.mid new r.history r.halts)

-- a life is a history with stops
pub histories : LivesAreHistories
histories [] life = ([], tt, refl)
histories (o ∷ []) life = (life.steps ++ [], followed o.rows life.steps life.last [] life.history tt, (life.steps, [], refl, life.are, refl))
histories (o ∷ p ∷ os) life =
    let first = life.0 in
    let later = histories (p ∷ os) life.1 in
    let history = subst (HistoryTo o.rows first.steps) (first.found p.rows refl) first.history in
    (first.steps ++ later.0, followed o.rows first.steps p.rows later.0 history later.1, (first.steps, later.0, refl, first.are, later.2))

-- no steps are steps of any configuration
none_of : (config : Configuration) (es : List LeaseStep) → es ≡ [] → AreOfOne config es
none_of config es none k g is = let e : slice_get [] k ≡ Some g = subst (λ (l : List LeaseStep). slice_get l k ≡ Some g) none is in absurd (none-some g e)

-- a step before others
one_of : (config : Configuration) (e : LeaseStep) (es : List LeaseStep) → e.config ≡ config → AreOfOne config es → AreOfOne config (e ∷ es)
one_of config e es its later zero g is = subst (λ (x : LeaseStep). x.config ≡ config) (same_Some e g is) its
one_of config e es its later (suc k) g is = later k g is

-- steps before others
all_of : (config : Configuration) (es fs : List LeaseStep) → AreOfOne config es → AreOfOne config fs → AreOfOne config (es ++ fs)
all_of config [] fs first later = later
all_of config (e ∷ es) fs first later = one_of config e (es ++ fs) (first zero e refl) (all_of config es fs (λ k g is. first (suc k) g is) later)

-- the steps of events are of the server's configuration
steps_of : (config : Configuration) (ports : Ports) (known : List Report) (es : List LeaseStep) → AreSteps config ports known es → AreOfOne config es
steps_of config ports [] es are = none_of config es are
steps_of config ports (r ∷ known) [] are = none_of config [] refl
steps_of config ports (r ∷ known) (e ∷ es) (inl idle) = steps_of config ports known (e ∷ es) idle.1
steps_of config ports (r ∷ known) (e ∷ es) (inr step) = one_of config e es step.0.config_is (steps_of config ports known es step.1)

-- and those of openings with one configuration are of that one
pub keep : LivesKeepConfigurations
keep config [] es with_one are = none_of config es are
keep config (o ∷ os) es with_one are =
    let mine = steps_of config o.ports (reports o.calls) are.0 (subst (λ (c : Configuration). AreSteps c o.ports (reports o.calls) are.0) with_one.0 are.3) in
    let later = keep config os are.1 with_one.1 are.4 in
    subst (AreOfOne config) (sym are.2) (all_of config are.0 are.1 mine later)
