-- A history, and the runs and lines that belong to it, grow by one event.
use Rattle.std.proofs.Common.{◌≡◌, ℕ, ◌+◌, ◌<◌, List, [], ◌∷◌, ◌++◌, Option, Some, refl, sym, ap, ◌∙◌, length, take, drop, get_or, inl, inr, subst}
use Rattle.std.proofs.lemmas.List.{drop_more, take-append-drop, take_more}
use Rattle.kd_loops.specs.Handling.{EndsEvent}
use Rattle.kd_loops.specs.History.{Halts, History, Reaches, Runs}
use Rattle.kd_loops.specs.Lines.{IsEventLine}
use Rattle.kd_loops.specs.Replay.{AreEvents, Handles}
use Rattle.kd_event.specs.declared.event.Event.{Event}
use Rattle.kd_event.specs.declared.event.Handled.{Handled}
use Rattle.kd_loops.specs.declared.fault.ReplayFault.{ReplayFault}
use Rattle.kd_loops.specs.declared.fault.ReplayFault.TheVariants as replaying
use Rattle.kd_loops.specs.declared.fault.ServeFault.{ServeFault}
use Rattle.kd_loops.specs.declared.fault.ServeFault.TheVariants as faults

pub more_events : (lines : List (List ℕ)) (events : List Event) (line : List ℕ) (event : Event) → AreEvents lines events → IsEventLine line event → AreEvents (lines ++ line ∷ []) (events ++ event ∷ [])
more_events [] [] line event are is = (is, tt)
more_events [] (e ∷ events) line event are is = absurd are
more_events (l ∷ lines) [] line event are is = absurd are
more_events (l ∷ lines) (e ∷ events) line event are is = (are.0, more_events lines events line event are.1 is)

module _ {H : Type 0} (gives : H → Event → Handled → H → Type 0) where
  pub more_history : (old : H) (events : List Event) (list : List Handled) (mid : H) (event : Event) (handled : Handled) (new : H)
      → History gives old events list mid → gives mid event handled new → History gives old (events ++ event ∷ []) (list ++ handled ∷ []) new
  more_history old [] [] mid event handled new h g = (new, rw (← h) g, refl)
  more_history old [] (x ∷ list) mid event handled new h g = absurd h
  more_history old (e ∷ events) [] mid event handled new h g = absurd h
  more_history old (e ∷ events) (x ∷ list) mid event handled new h g = (h.0, h.1, more_history h.0 events list mid event handled new h.2 g)

  -- the event at an index is handled
  pub next_history : (old : H) (events : List Event) (list : List Handled) (mid : H) (i : ℕ) (event : Event) (handled : Handled) (new : H)
      → i < length events → event ≡ get_or events i event → History gives old (take i events) list mid → gives mid event handled new
      → History gives old (take (i + 1) events) (list ++ handled ∷ []) new
  next_history old events list mid i event handled new less is h g =
      let e : take (i + 1) events ≡ take i events ++ event ∷ [] = take_more events i event less ∙ ap (λ x. take i events ++ x ∷ []) (sym is) in
      rw e (more_history old (take i events) list mid event handled new h g)

  -- the same, with the bytes given separately
  pub next_event : (old : H) (events : List Event) (list : List Handled) (mid : H) (i : ℕ) (event : Event) (bytes : List ℕ) (handled : Handled) (new : H)
      → i < length events → event ≡ get_or events i event → bytes ≡ event.bytes → History gives old (take i events) list mid
      → gives mid (record { moment = event.moment; bytes = bytes }) handled new → History gives old (take (i + 1) events) (list ++ handled ∷ []) new
  next_event old events list mid i event bytes handled new less is same h g =
      let P : List ℕ → Type 0 = λ b. gives mid (record { moment = event.moment; bytes = b }) handled new in
      next_history old events list mid i event handled new less is h (subst P same g)

module _ {H : Type 0} (gives : H → Event → Handled → H → Type 0) (fails : H → Event → ServeFault → H → Type 0) where
  halts_none : (events : List Event) (list : List Handled) (server : H) → list ≡ [] → Halts fails (Some faults.Memory) events list server server
  halts_none [] list server none = record { want = refl; none = none; same = refl }
  halts_none (event ∷ events) list server none = inr (record { want = refl; none = none; same = refl })

  -- there is not enough memory for the list
  pub runs_none : (events : List Event) (list : List Handled) (server : H) → list ≡ [] → Runs gives fails events list (Some faults.Memory) server server
  runs_none events list server none = record {
    done = [];
    after = events;
    mid = server;
    all = refl;
    history = rw none refl;
    halts = halts_none events list server none;
  }

  -- the event at an index has a fault
  pub runs_fault : (old : H) (events : List Event) (list : List Handled) (mid : H) (i : ℕ) (event : Event) (bytes : List ℕ) (fault : ServeFault) (new : H)
      → i < length events → event ≡ get_or events i event → bytes ≡ event.bytes → History gives old (take i events) list mid
      → fails mid (record { moment = event.moment; bytes = bytes }) fault new → Runs gives fails events list (Some fault) old new
  runs_fault old events list mid i event bytes fault new less is same h f =
      let P : List ℕ → Type 0 = λ b. fails mid (record { moment = event.moment; bytes = b }) fault new in
      record {
        done = take i events;
        after = event ∷ drop (i + 1) events;
        mid = mid;
        all = sym (take-append-drop i events) ∙ ap (λ r. take i events ++ r) (drop_more events i event less ∙ ap (λ x. x ∷ drop (i + 1) events) (sym is));
        history = h;
        halts = inl (subst P same f);
      }

  -- a server that has handled nothing is unchanged
  pub reaches_none : (server : H) → Reaches gives fails server server
  reaches_none server = record { events = []; list = []; mid = server; history = refl; last = inl refl }

  -- a server that has handled some events is as they left it
  pub reaches_handled : (count : ℕ) (old new : H) → Handles gives count old new → Reaches gives fails old new
  reaches_handled count old new h = record { events = h.events; list = h.list; mid = new; history = h.history; last = inl refl }

  -- and if the next event ends the replay, it is the same, or as that event left it
  pub reaches_ended : (count : ℕ) (old mid new : H) (event : Event) (fault : ReplayFault) (contents written : Option (List ℕ)) → Handles gives count old mid
      → EndsEvent gives fails fault event mid new contents written → Reaches gives fails old new
  reaches_ended count old mid new event replaying.Memory contents written h e = record { events = h.events; list = h.list; mid = mid; history = h.history; last = inl e.0 }
  reaches_ended count old mid new event (replaying.Serve fault) contents written h e = record { events = h.events; list = h.list; mid = mid; history = h.history; last = inr (event, fault, e.0) }
  reaches_ended count old mid new event replaying.Write contents written h e = record {
    events = h.events ++ event ∷ [];
    list = h.list ++ e.handled ∷ [];
    mid = new;
    history = more_history gives old h.events h.list mid event e.handled new h.history e.given;
    last = inl refl;
  }
  reaches_ended count old mid new event replaying.Read contents written h e = absurd e
  reaches_ended count old mid new event (replaying.BadLine number) contents written h e = absurd e
