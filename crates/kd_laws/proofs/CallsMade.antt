-- What a command does with a server is calls: those of the traffic, or of the lines that are read.
use Rattle.std.proofs.Common.{◌≡◌, ◌⊎◌, inl, inr, ⊎_elim, ℕ, true, map, List, [], ◌∷◌, ◌++◌, Option, Some, None, Result, Ok, Err, refl, sym, ap, ◌∙◌, subst, append_assoc}
use Rattle.std.proofs.KnownBytes.{Appends-nil, Appends-trans}
use Rattle.std.proofs.lemmas.Grind.{flat_map-append}
use Rattle.std.proofs.lemmas.List.{append-nil, flat_map_more, map_push}
use Rattle.std.proofs.lemmas.Option.{none-some, same_Some}
use Rattle.std.specs.Io.KnownBytes.{Appends}
use Rattle.std.specs.List.{flat_map}
use Rattle.kd_event.specs.declared.event.Event.{Event}
use Rattle.kd_event.specs.declared.event.Handled.{Handled}
use Rattle.kd_keeps.specs.declared.keeps.Keeps.{Ghosts}
use Rattle.kd_laws.specs.Calls.{AreCallsOfBatches, AreCallsOfLines, IsAfterBatches, IsReplayOf, IsTrafficOf, IsWritten, ReplayingIsCalls, ServingIsCalls}
use Rattle.kd_laws.specs.Lives.{Call, Called}
use Rattle.kd_laws.specs.Lives.Call.{one, batch}
use Rattle.kd_loops.proofs.Growing.{grows_none, grows_trans}
use Rattle.kd_loops.specs.Ahead.{clocks_asked}
use Rattle.kd_loops.specs.Arriving.{event_of}
use Rattle.kd_loops.specs.History as past
use Rattle.kd_loops.specs.Lines.{lines_of}
use Rattle.kd_loops.specs.Replay.{AreEvents, Ends, Replays}
use Rattle.kd_loops.specs.Serving.{Answered, Batch, EndsServing, Follow, Passes, Timed, Traffic, events_in, gathering, handled_in, record_of, text_of, texts_of, trace_of}
use Rattle.kd_loops.specs.Text.{line_of}
use Rattle.kd_loops.specs.Trace.{Grows}
use Rattle.kd_loops.specs.declared.fault.LoopFault.{LoopFault}
use Rattle.kd_loops.specs.declared.fault.LoopFault.TheVariants as loops
use Rattle.kd_loops.specs.declared.fault.ReplayFault.{ReplayFault}
use Rattle.kd_loops.specs.declared.fault.ReplayFault.TheVariants as replaying
use Rattle.kd_loops.specs.declared.fault.ServeFault.{ServeFault}
use Rattle.kd_loops.specs.declared.fault.ServeFault.TheVariants as faults
use Rattle.kd_loops.specs.declared.happening.Happening.{Happening}
use Rattle.kd_server.specs.Batch.{Batched}
use Rattle.kd_server.specs.Server.{ServerState, Refuses, Steps, latest_in}

-- traffic, and then more
passes_then : (a b c : Traffic) (x y : List Happening) (p q s t : List ℕ) → Passes a b x p s → Passes b c y q t → Passes a c (x ++ y) (p ++ q) (s ++ t)
passes_then a b c x y p q s t first then = record {
  trace_grows = grows_trans a.trace b.trace c.trace x y first.trace_grows then.trace_grows;
  recorded_grows = Appends-trans a.recorded b.recorded c.recorded p q first.recorded_grows then.recorded_grows;
  written_grows = Appends-trans a.written b.written c.written s t first.written_grows then.written_grows;
}

-- no traffic
passes_none : (a b : Traffic) → b ≡ a → Passes a b [] [] []
passes_none a b same = subst (λ (t : Traffic). Passes a t [] [] []) (sym same) (record {
  trace_grows = grows_none a.trace;
  recorded_grows = Appends-nil a.recorded;
  written_grows = Appends-nil a.written;
})

answers_in : List Batch → List Answered
answers_in list = flat_map (λ b. b.answers) list

-- the texts of batches are those of their answers
texts_are : (list : List Batch) → flat_map texts_of list ≡ flat_map text_of (answers_in list)
unfolding answers_in
texts_are [] = refl
texts_are (b ∷ list) = ap (λ text. texts_of b ++ text) (texts_are list) ∙ sym (flat_map-append text_of b.answers (flat_map (λ (c : Batch). c.answers) list))

-- answers are written after others
written_after : (first answers : List Answered) (text : List ℕ) → IsWritten answers text → IsWritten (first ++ answers) (flat_map text_of first ++ text)
written_after first answers text (inl whole) = inl (ap (λ t. flat_map text_of first ++ t) whole ∙ sym (flat_map-append text_of first answers))
written_after first answers text (inr w) = inr (
  first ++ w.0,
  w.1,
  w.2,
  w.3,
  ap (λ l. first ++ l) w.4 ∙ sym (append_assoc first w.0 (w.1 ∷ [])),
  w.5,
  ap (λ t. flat_map text_of first ++ t) w.6 ∙ sym (append_assoc (flat_map text_of first) (flat_map text_of w.0) w.2) ∙ ap (λ t. t ++ w.2) (sym (flat_map-append text_of first w.0)),
)

-- the call of a batch that is handled to its end
call_of : Batch → Call
call_of b = batch (events_in b) (handled_in b) None

calls_of_all : List Batch → List Call
calls_of_all list = map call_of list

-- batches that are handled to their ends have these calls
are_all : (list : List Batch) → AreCallsOfBatches list (calls_of_all list)
unfolding calls_of_all call_of
are_all [] = refl
are_all (b ∷ []) = ([], None, ap (λ l. batch (events_in b) l None ∷ []) (sym (append-nil (handled_in b))))
are_all (b ∷ c ∷ list) = (calls_of_all (c ∷ list), refl, are_all (c ∷ list))

-- and one more batch may end in any way
are_more : (list : List Batch) (b : Batch) (left : List Handled) (fault : Option ServeFault)
    → AreCallsOfBatches (list ++ b ∷ []) (calls_of_all list ++ batch (events_in b) (handled_in b ++ left) fault ∷ [])
unfolding calls_of_all call_of
are_more [] b left fault = (left, fault, refl)
are_more (c ∷ []) b left fault = (batch (events_in b) (handled_in b ++ left) fault ∷ [], refl, (left, fault, refl))
are_more (c ∷ d ∷ list) b left fault = (calls_of_all (d ∷ list) ++ batch (events_in b) (handled_in b ++ left) fault ∷ [], refl, are_more (d ∷ list) b left fault)

module _ {S : Type 0} (g : Ghosts S) where
  -- calls after calls
  called_then : (first later : List Call) (old mid new : ServerState S) → Called g old first mid → Called g mid later new → Called g old (first ++ later) new
  called_then [] later old mid new same c = subst (λ (s : ServerState S). Called g s later new) same c
  called_then (call ∷ first) later old mid new f c = (f.0, f.1, called_then first later f.0 mid new f.2 c)

  -- batches that follow one another are calls
  followed_calls : (limit : Option ℕ) (list : List Batch) (old mid : Timed (ServerState S)) → Follow limit latest_in (Batched g) old list mid
      → Called g old.server (calls_of_all list) mid.server
  unfolding calls_of_all call_of
  followed_calls limit [] old mid same = ap (λ s. s.server) same
  followed_calls limit (b ∷ list) old mid f = (f.1.0, f.1.1, followed_calls limit list (record { server = f.1.0; clocks = b.clocks }) mid f.1.2)

  -- serving ends without a further call: datagrams came that are not handled
  record EndsBare (old new : ServerState S) (before after : Traffic) : Type 0 where
    same : new ≡ old
    last : List Happening
    unhandled : List ℕ
    last_is : IsAfterBatches last unhandled
    passes : Passes before after last unhandled []

  -- serving ends with the call of one more batch
  record EndsBatch (old new : ServerState S) (before after : Traffic) : Type 0 where
    last : Batch
    left : List Handled
    fault : Option ServeFault
    given : Batched g old (events_in last) (handled_in last ++ left) fault new
    text : List ℕ
    written : IsWritten last.answers text
    passes : Passes before after (trace_of last) (record_of last) text

  -- a batch with a fault
  failed_end : (fault : ServeFault) (old new : ServerState S) (before after : Traffic) (b : Batch) → Batched g old (events_in b) (handled_in b) (Some fault) new
      → Passes before after (trace_of b) (record_of b) (texts_of b) → EndsBatch old new before after
  failed_end fault old new before after b given passes = record {
    last = b;
    left = [];
    fault = Some fault;
    given = subst (λ (l : List Handled). Batched g old (events_in b) l (Some fault) new) (sym (append-nil (handled_in b))) given;
    text = texts_of b;
    written = inl refl;
    passes = passes;
  }

  -- serving ends in one of the two ways
  ended : (limit : Option ℕ) (fault : LoopFault) (left : ℕ) (old : Timed (ServerState S)) (new : ServerState S) (before after : Traffic)
      → EndsServing limit latest_in (Batched g) fault left old new before after → EndsBare old.server new before after ⊎ EndsBatch old.server new before after
  ended limit loops.Read left old new before after e =
      inl (record { same = e.0; last = []; unhandled = []; last_is = inl (refl, refl); passes = passes_none before after e.1 })
  ended limit loops.Ahead left old new before after e =
      inl (record { same = e.0; last = gathering e.1.arrivals e.1.clocks; unhandled = []; last_is = inr (e.1.arrivals, e.1.clocks, _, refl, refl); passes = e.1.passes })
  ended limit loops.Record left old new before after e =
      inl (record { same = e.0; last = gathering e.1.arrivals e.1.clocks; unhandled = e.1.part; last_is = inr (e.1.arrivals, e.1.clocks, e.1.more, refl, e.1.cut); passes = e.1.passes })
  ended limit loops.Memory left old new before after e = inr (failed_end faults.Memory old.server new before after e.batch e.given e.passes)
  ended limit (loops.Serve fault) left old new before after e = inr (failed_end fault old.server new before after e.1.batch e.1.given e.1.passes)
  ended limit loops.Write left old new before after e =
      let last : Batch = record { arrivals = e.arrivals; recordable = e.recordable; clocks = e.clocks; answers = e.told ++ e.last ∷ [] } in
      let all : map (λ (a : Answered). a.handled) e.told ++ e.last.handled ∷ e.untold ≡ handled_in last ++ e.untold
      = sym (append_assoc (map (λ (a : Answered). a.handled) e.told) (e.last.handled ∷ []) e.untold) ∙ ap (λ l. l ++ e.untold) (sym (map_push (λ (a : Answered). a.handled) e.told e.last)) in
      inr (record {
        last = last;
        left = e.untold;
        fault = e.fault;
        given = subst (λ (l : List Handled). Batched g old.server (map event_of e.arrivals) l e.fault new) all e.given;
        text = flat_map text_of e.told ++ e.part;
        written = inr (e.told, e.last, e.part, e.more, refl, e.cut, refl);
        passes = e.passes;
      })

  -- the calls and the traffic of batches, and of what happens before and after them
  abbrev Shows : ServerState S → ServerState S → Traffic → Traffic → Type 0
  Shows old new before after = (calls : List Call) × Called g old calls new × IsTrafficOf calls before after

  module _ (old mid new : ServerState S) (before after : Traffic) (first : List Happening) (first_is : (first ≡ []) ⊎ ((clocks : _) × (first ≡ clocks_asked clocks))) (list : List Batch)
      (called : Called g old (calls_of_all list) mid) where
    -- nothing is handled after them
    bare : new ≡ mid → (last : List Happening) (unhandled : List ℕ) → IsAfterBatches last unhandled
        → Passes before after (first ++ (flat_map trace_of list ++ last)) (flat_map record_of list ++ unhandled) (flat_map texts_of list ++ []) → Shows old new before after
    unfolding answers_in
    bare same last unhandled last_is passes = (
      calls_of_all list,
      subst (λ (s : ServerState S). Called g old (calls_of_all list) s) (sym same) called,
      record {
        batches = list;
        are = are_all list;
        first = first;
        first_is = first_is;
        last = last;
        last_is = last_is;
        trace = passes.trace_grows;
        unhandled = unhandled;
        recorded = passes.recorded_grows;
        text = flat_map texts_of list ++ [];
        written = inl (append-nil (flat_map texts_of list) ∙ texts_are list);
        grows = passes.written_grows;
      },
    )

    -- one more batch is handled after them
    more : (b : Batch) (left : List Handled) (fault : Option ServeFault) (text : List ℕ) → Batched g mid (events_in b) (handled_in b ++ left) fault new → IsWritten b.answers text
        → Passes before after (first ++ (flat_map trace_of list ++ trace_of b)) (flat_map record_of list ++ record_of b) (flat_map texts_of list ++ text) → Shows old new before after
    unfolding answers_in
    more b left fault text given written passes =
        let all = list ++ b ∷ [] in
        let trace : first ++ (flat_map trace_of list ++ trace_of b) ≡ first ++ (flat_map trace_of all ++ [])
        = sym (append_assoc first (flat_map trace_of list) (trace_of b)) ∙ flat_map_more trace_of first list b ∙ ap (λ t. first ++ t) (sym (append-nil (flat_map trace_of all))) in
        let recorded : flat_map record_of list ++ record_of b ≡ flat_map record_of all ++ [] = flat_map_more record_of [] list b ∙ sym (append-nil (flat_map record_of all)) in
        let answers : answers_in list ++ b.answers ≡ flat_map (λ (c : Batch). c.answers) all = flat_map_more (λ (c : Batch). c.answers) [] list b in (
          calls_of_all list ++ batch (events_in b) (handled_in b ++ left) fault ∷ [],
          called_then (calls_of_all list) (batch (events_in b) (handled_in b ++ left) fault ∷ []) old mid new called (new, given, refl),
          record {
            batches = all;
            are = are_more list b left fault;
            first = first;
            first_is = first_is;
            last = [];
            last_is = inl (refl, refl);
            trace = subst (Grows before.trace after.trace) trace passes.trace_grows;
            unhandled = [];
            recorded = subst (Appends before.recorded after.recorded) recorded passes.recorded_grows;
            text = flat_map texts_of list ++ text;
            written = subst (λ (l : List Answered). IsWritten l (flat_map texts_of list ++ text)) answers
                (subst (λ (t : List ℕ). IsWritten (answers_in list ++ b.answers) (t ++ text)) (sym (texts_are list)) (written_after (answers_in list) b.answers text written));
            grows = passes.written_grows;
          },
        )

  -- all of serving is calls
  pub serving : ServingIsCalls g
  unfolding calls_of_all
  serving limit (Ok done) count old new before after (inl s) =
      let h = s.goes.1 in
      bare old new new before after (clocks_asked s.clocks) (inr (s.clocks, refl)) h.list (followed_calls limit h.list _ _ h.follow) refl [] [] (inl (refl, refl))
      (passes_then before s.begun after (clocks_asked s.clocks) (flat_map trace_of h.list ++ []) [] (flat_map record_of h.list ++ []) [] (flat_map texts_of h.list ++ []) s.asked
      (passes_then s.begun after after (flat_map trace_of h.list) [] (flat_map record_of h.list) [] (flat_map texts_of h.list) [] h.passes (passes_none after after refl)))
  serving limit (Err fault) count old new before after (inl s) =
      let e = s.goes in
      let h = e.served in
      let called = followed_calls limit h.list (record { server = old; clocks = s.clocks }) e.mid h.follow in
      ⊎_elim
      (λ (last : EndsBare e.mid.server new e.between after).
      bare old e.mid.server new before after (clocks_asked s.clocks) (inr (s.clocks, refl)) h.list called last.same last.last last.unhandled last.last_is
      (passes_then before s.begun after (clocks_asked s.clocks) (flat_map trace_of h.list ++ last.last) [] (flat_map record_of h.list ++ last.unhandled) [] (flat_map texts_of h.list ++ []) s.asked
      (passes_then s.begun e.between after (flat_map trace_of h.list) last.last (flat_map record_of h.list) last.unhandled (flat_map texts_of h.list) [] h.passes last.passes)))
      (λ (last : EndsBatch e.mid.server new e.between after).
      more old e.mid.server new before after (clocks_asked s.clocks) (inr (s.clocks, refl)) h.list called last.last last.left last.fault last.text last.given last.written
      (passes_then before s.begun after (clocks_asked s.clocks) (flat_map trace_of h.list ++ trace_of last.last) [] (flat_map record_of h.list ++ record_of last.last) [] (flat_map texts_of h.list ++ last.text) s.asked
      (passes_then s.begun e.between after (flat_map trace_of h.list) (trace_of last.last) (flat_map record_of h.list) (record_of last.last) (flat_map texts_of h.list) last.text h.passes last.passes)))
      (ended limit fault e.left e.mid new e.between after e.ends)
  serving limit (Ok done) count old new before after (inr n) = absurd n.1
  serving limit (Err loops.Memory) count old new before after (inr n) =
      bare old old new before after [] (inl refl) [] refl n.0 [] [] (inl (refl, refl)) (passes_none before after n.1)
  serving limit (Err loops.Ahead) count old new before after (inr n) =
      bare old old new before after (clocks_asked n.1.0) (inr (n.1.0, refl)) [] refl n.0 [] [] (inl (refl, refl))
      (passes_then before after after (clocks_asked n.1.0) [] [] [] [] [] n.1.2 (passes_none after after refl))
  serving limit (Err loops.Read) count old new before after (inr n) = absurd n.1
  serving limit (Err loops.Record) count old new before after (inr n) = absurd n.1
  serving limit (Err loops.Write) count old new before after (inr n) = absurd n.1
  serving limit (Err (loops.Serve fault)) count old new before after (inr n) = absurd n.1

  -- lines whose events have a history are calls, before those of the lines after them
  lines_called : (lines after : List (List ℕ)) (events : List Event) (list : List Handled) (old mid new : ServerState S) (calls : List Call) (text : List ℕ)
      → AreEvents lines events → past.History (Steps g) old events list mid → Called g mid calls new → AreCallsOfLines after calls text
      → (all : List Call) × Called g old all new × AreCallsOfLines (lines ++ after) all (flat_map line_of list ++ text)
  lines_called [] after [] [] old mid new calls text spelled same c are = (calls, subst (λ (s : ServerState S). Called g s calls new) same c, are)
  lines_called (line ∷ lines) after (event ∷ events) (handled ∷ list) old mid new calls text spelled h c are =
      let later = lines_called lines after events list h.0 mid new calls text spelled.1 h.2 c are in (
        one event (Ok handled) ∷ later.0,
        (h.0, h.1, later.1),
        (spelled.0, inl (flat_map line_of list ++ text, append_assoc (line_of handled) (flat_map line_of list) text, later.2)),
      )
  lines_called [] after (event ∷ events) list old mid new calls text spelled h c are = absurd spelled
  lines_called (line ∷ lines) after [] list old mid new calls text spelled h c are = absurd spelled
  lines_called [] after [] (handled ∷ list) old mid new calls text spelled h c are = absurd h
  lines_called (line ∷ lines) after (event ∷ events) [] old mid new calls text spelled h c are = absurd h

  -- what is read at the end of a replay is no call, or one
  abbrev IsLast : List (List ℕ) → ServerState S → ServerState S → List ℕ → List ℕ → Type 0
  IsLast lines mid new between out = (calls : List Call) × (text : List ℕ) × Called g mid calls new × AreCallsOfLines lines calls text × (out ≡ between ++ text)

  no_last : (lines : List (List ℕ)) (mid new : ServerState S) (between out : List ℕ) → new ≡ mid → out ≡ between → IsLast lines mid new between out
  no_last lines mid new between out same as_before = ([], [], same, refl, as_before ∙ sym (append-nil between))

  last_of : (failed : Type 0) (fault : ReplayFault) (number : ℕ) (lines : List (List ℕ)) (mid new : ServerState S) (between out : List ℕ)
      → Ends (Steps g) (Refuses g) failed fault number lines mid new between out → IsLast lines mid new between out
  last_of failed (replaying.BadLine k) number lines mid new between out e = no_last lines mid new between out e.2 e.3
  last_of failed (replaying.Serve fault) number [] mid new between out e = absurd e.0
  last_of failed (replaying.Serve fault) number (line ∷ lines) mid new between out e =
      (one e.0.event (Err fault) ∷ [], [], (new, e.0.failed, refl), (e.0.spelled, refl, refl), e.1 ∙ sym (append-nil between))
  last_of failed replaying.Write number [] mid new between out e = absurd e
  last_of failed replaying.Write number (line ∷ lines) mid new between out e =
      (one e.event (Ok e.handled) ∷ [], e.part, (new, e.given, refl), (e.spelled, inr (e.more, e.cut, refl)), e.written)
  last_of failed replaying.Read number lines mid new between out e = no_last lines mid new between out e.1 e.2
  last_of failed replaying.Memory number lines mid new between out e = no_last lines mid new between out e.1 e.2

  -- a replay over known bytes is calls
  replayed : (failed : Type 0) (result : Result ℕ ReplayFault) (lines : List (List ℕ)) (old new : ServerState S) (before out : List ℕ)
      → Replays (Steps g) (Refuses g) failed result lines old new before out
      → (calls : List Call) × (text : List ℕ) × Called g old calls new × AreCallsOfLines lines calls text × (out ≡ before ++ text)
  replayed failed (Ok count) lines old new before out r =
      let did = r.2 in
      let all = lines_called lines [] did.events did.list old new new [] [] did.spelled did.history refl refl in (
        all.0,
        flat_map line_of did.list ++ [],
        all.1,
        subst (λ (l : List (List ℕ)). AreCallsOfLines l all.0 (flat_map line_of did.list ++ [])) (append-nil lines) all.2,
        did.written ∙ ap (λ t. before ++ t) (sym (append-nil (flat_map line_of did.list))),
      )
  replayed failed (Err fault) lines old new before out r =
      let did = r.did in
      let last = last_of failed fault _ r.after r.mid new r.between out r.ends in
      let all = lines_called r.before r.after did.events did.list old r.mid new last.0 last.1 did.spelled did.history last.2 last.3 in (
        all.0,
        flat_map line_of did.list ++ last.1,
        all.1,
        subst (λ (l : List (List ℕ)). AreCallsOfLines l all.0 (flat_map line_of did.list ++ last.1)) (sym r.all) all.2,
        last.4 ∙ ap (λ t. t ++ last.1) did.written ∙ append_assoc before (flat_map line_of did.list) last.1,
      )

  -- events with their history are calls
  all_called : (events : List Event) (list : List Handled) (old mid new : ServerState S) (after : List Call) → past.History (Steps g) old events list mid → Called g mid after new
      → (calls : List Call) × Called g old calls new
  all_called [] [] old mid new after same c = (after, subst (λ (s : ServerState S). Called g s after new) same c)
  all_called (event ∷ events) (handled ∷ list) old mid new after h c =
      let later = all_called events list h.0 mid new after h.2 c in
      (one event (Ok handled) ∷ later.0, (h.0, h.1, later.1))
  all_called [] (handled ∷ list) old mid new after h c = absurd h
  all_called (event ∷ events) [] old mid new after h c = absurd h

  -- whatever a server reaches by events, it reaches by calls
  reaching : (old new : ServerState S) → past.Reaches (Steps g) (Refuses g) old new → (calls : List Call) × Called g old calls new
  reaching old new r = ⊎_elim
      (λ same. all_called r.events r.list old r.mid new [] r.history same)
      (λ next. all_called r.events r.list old r.mid new (one next.0 (Err next.1) ∷ []) r.history (new, next.2, refl))
      r.last

  -- if something is not known, nothing is said of the lines
  unknown_input : (calls : List Call) (old new : Option (List ℕ)) → IsReplayOf calls None old new
  unknown_input calls old new bytes before is known = absurd (none-some bytes is)

  unknown_output : (calls : List Call) (input new : Option (List ℕ)) → IsReplayOf calls input None new
  unknown_output calls input new bytes before is known = absurd (none-some before known)

  -- a replay is calls
  pub replays : ReplayingIsCalls g
  replays failed result old new None left before after r =
      let calls = reaching old new r.reached in
      (calls.0, calls.1, unknown_input calls.0 before after)
  replays failed result old new (Some bytes) left None after r =
      let calls = reaching old new r.reached in
      (calls.0, calls.1, unknown_output calls.0 (Some bytes) after)
  replays failed result old new (Some bytes) left (Some before) after r =
      let w = r.leaves bytes before refl refl in
      let all = replayed (failed ≡ true) result (lines_of bytes) old new before w.out w.replays in (
        all.0,
        all.2,
        λ its begun is known. (
          all.1,
          subst (λ (b : List ℕ). AreCallsOfLines (lines_of b) all.0 all.1) (same_Some bytes its is) all.3,
          w.told ∙ ap (λ t. Some t) all.4 ∙ ap (λ (t : List ℕ). Some (t ++ all.1)) (same_Some before begun known),
        ),
      )
