-- The log of an input grows, and what is served of the input.
use Rattle.std.proofs.Common.{◌≡◌, inl, inr, ℕ, ◌+◌, Bool, true, false, List, [], ◌∷◌, ◌++◌, ◌<◌, Option, None, Some, Result, Ok, Err, OnOk, refl, sym, ap, ◌∙◌, subst, arith, append_assoc, drop, get_or, length, map, take}
use Rattle.std.proofs.lemmas.List.{append-nil, length-append, length-map, map-append, nil_from_length, take-append-drop, take_more}
use Rattle.std.specs.List.{flat_map}
use Rattle.kd_event.specs.declared.event.Event.{Event}
use Rattle.kd_event.specs.declared.event.Handled.{Handled}
use Rattle.kd_event.specs.declared.event.Response.TheVariants as responses
use Rattle.kd_event.specs.declared.event.Response.{Response}
use Rattle.kd_loops.specs.Arriving.{Arrival, coming, event_of}
use Rattle.kd_loops.specs.Log.{HasCome, IsLogOf, ServesInput, cut_event, last_moment}
use Rattle.kd_loops.specs.Lines.{lines_of}
use Rattle.kd_loops.specs.Posting.{IsKnownLogOf, IsPosted}
use Rattle.kd_loops.specs.Replay.{AreEvents}
use Rattle.kd_loops.proofs.Batches.{passes_then}
use Rattle.kd_loops.proofs.Recorded.{batches_replay}
use Rattle.std.specs.Io.KnownBytes.{Appends}
use Rattle.kd_loops.specs.Ahead.{clocks_asked}
use Rattle.kd_loops.specs.Serving.{Answered, Batch, HasBegun, ServesTo, Traffic, events_in, gathering, packets_in, packets_of, record_of, trace_of}
use Rattle.kd_loops.specs.Trace.{Grows}
use Rattle.kd_loops.specs.declared.fault.LoopFault.{LoopFault}
use Rattle.kd_loops.specs.declared.fault.ServeFault.{ServeFault}
use Rattle.kd_loops.specs.declared.happening.Happening.{Happening}
use Rattle.kd_loops.specs.declared.happening.Happening.TheVariants as happens
use Rattle.kd_loops.specs.declared.happening.Packet.{Packet}

last_push : (moment : ℕ) (first : List Event) (event : Event) → last_moment moment (first ++ event ∷ []) ≡ event.moment
last_push moment [] event = refl
last_push moment (x ∷ first) event = last_push x.moment first event

log_came : (moment : ℕ) (log : List Happening) (first : List Event) (event : Event) (waited : Bool) → IsLogOf moment log first
    → IsLogOf moment (log ++ happens.Came waited event.bytes ∷ []) (first ++ event ∷ [])
log_came moment [] [] event waited is = (refl, tt)
log_came moment [] (x ∷ first) event waited is = absurd is
log_came moment (happens.Came w datagram ∷ log) [] event waited is = absurd is
log_came moment (happens.Came w datagram ∷ log) (x ∷ first) event waited is = (is.0, log_came x.moment log first event waited is.1)
log_came moment (happens.Said said ∷ log) first event waited is = (is.0, log_came moment log first event waited is.1)
log_came moment (happens.Passed steady ∷ log) first event waited is = log_came moment log first event waited is
log_came moment (happens.Went packet ∷ log) first event waited is = log_came moment log first event waited is

log_said : (moment : ℕ) (log : List Happening) (first : List Event) (said : ℕ) → said ≡ last_moment moment first → IsLogOf moment log first
    → IsLogOf moment (log ++ happens.Said said ∷ []) first
log_said moment [] [] said same is = (same, tt)
log_said moment [] (x ∷ first) said same is = absurd is
log_said moment (happens.Came w datagram ∷ log) [] said same is = absurd is
log_said moment (happens.Came w datagram ∷ log) (x ∷ first) said same is = (is.0, log_said x.moment log first said same is.1)
log_said moment (happens.Said s ∷ log) first said same is = (is.0, log_said moment log first said same is.1)
log_said moment (happens.Passed steady ∷ log) first said same is = log_said moment log first said same is
log_said moment (happens.Went packet ∷ log) first said same is = log_said moment log first said same is

log_went : (moment : ℕ) (log : List Happening) (first : List Event) (packet : Packet) → IsLogOf moment log first
    → IsLogOf moment (log ++ happens.Went packet ∷ []) first
log_went moment [] [] packet is = tt
log_went moment [] (x ∷ first) packet is = absurd is
log_went moment (happens.Came w datagram ∷ log) [] packet is = absurd is
log_went moment (happens.Came w datagram ∷ log) (x ∷ first) packet is = (is.0, log_went x.moment log first packet is.1)
log_went moment (happens.Said s ∷ log) first packet is = (is.0, log_went moment log first packet is.1)
log_went moment (happens.Passed steady ∷ log) first packet is = log_went moment log first packet is
log_went moment (happens.Went p ∷ log) first packet is = log_went moment log first packet is

log_passed : (moment : ℕ) (log : List Happening) (first : List Event) (steady : ℕ) → IsLogOf moment log first
    → IsLogOf moment (log ++ happens.Passed steady ∷ []) first
log_passed moment [] [] steady is = tt
log_passed moment [] (x ∷ first) steady is = absurd is
log_passed moment (happens.Came w datagram ∷ log) [] steady is = absurd is
log_passed moment (happens.Came w datagram ∷ log) (x ∷ first) steady is = (is.0, log_passed x.moment log first steady is.1)
log_passed moment (happens.Said s ∷ log) first steady is = (is.0, log_passed moment log first steady is.1)
log_passed moment (happens.Passed s ∷ log) first steady is = log_passed moment log first steady is
log_passed moment (happens.Went p ∷ log) first steady is = log_passed moment log first steady is

-- what is known of a log that grew
grown : (old new : Option (List Happening)) (more : List Happening) (first after : List Event)
    → ((log : List Happening) → IsLogOf 0 log first → IsLogOf 0 (log ++ more) after) → Grows old new more → IsKnownLogOf old first → IsKnownLogOf new after
grown None new more first after step grows is = subst (λ (n : Option (List Happening)). IsKnownLogOf n after) (sym grows) tt
grown (Some old) None more first after step grows is = tt
grown (Some old) (Some new) more first after step grows is = subst (λ (l : List Happening). IsLogOf 0 l after) (sym grows) (step old is)

module _ (given input : List Event) (next moment : ℕ) (old new : Option (List Happening)) where
  -- the next event comes
  pub posted_came : (event : Event) (waited : Bool) (later : ℕ) → later ≡ event.moment → IsPosted given input next moment old → next < length input → event ≡ get_or input next event
      → Grows old new (happens.Came waited event.bytes ∷ []) → IsPosted given input (next + 1) later new
  posted_came event waited later said before less is grows =
      let first = take next input in
      let more : take (next + 1) input ≡ first ++ event ∷ [] = take_more input next event less ∙ ap (λ e. first ++ e ∷ []) (sym is) in
      let P : List Event → Type 0 = λ es. (later ≡ last_moment 0 es) × IsKnownLogOf new es in (
        before.0,
        subst P (sym more) (
          said ∙ sym (last_push 0 first event),
          grown old new _ first (first ++ event ∷ [])
              (λ log h. log_came 0 log first event waited h) grows before.1.1,
        ),
      )

  -- the clock gives the time
  pub posted_said : IsPosted given input next moment old → Grows old new (happens.Said moment ∷ []) → IsPosted given input next moment new
  posted_said before grows =
      let first = take next input in
      (before.0, (before.1.0, grown old new _ first first (λ log h. log_said 0 log first moment before.1.0 h) grows before.1.1))

  -- the steady clock gives what it has counted
  pub posted_passed : (steady : ℕ) → IsPosted given input next moment old → Grows old new (happens.Passed steady ∷ []) → IsPosted given input next moment new
  posted_passed steady before grows =
      let first = take next input in
      (before.0, (before.1.0, grown old new _ first first (λ log h. log_passed 0 log first steady h) grows before.1.1))

  -- a reply is handed over
  pub posted_went : (packet : Packet) → IsPosted given input next moment old → Grows old new (happens.Went packet ∷ []) → IsPosted given input next moment new
  posted_went packet before grows =
      let first = take next input in
      (before.0, (before.1.0, grown old new _ first first (λ log h. log_went 0 log first packet h) grows before.1.1))

-- the log is of the first events of the input that was given
pub has_come : (given input asked : List Event) (next moment : ℕ) (log : List Happening) → asked ≡ given → IsPosted given input next moment (Some log) → HasCome asked log
has_come given input asked next moment log same p = record {
  first = take next input;
  rest = drop next input;
  all = same ∙ sym p.0 ∙ sym (take-append-drop next input);
  is = p.1.1;
}

-- a prefix of a log is of a prefix of the events
record Cuts (moment : ℕ) (log : List Happening) (events cut : List Event) : Type 0 where
  pub front : List Event
  pub behind : List Event
  pub later : ℕ
  pub all : events ≡ front ++ behind
  pub same : cut ≡ map cut_event front
  pub is : IsLogOf later log behind

cuts_none : (moment : ℕ) (log : List Happening) (events : List Event) → IsLogOf moment log events → Cuts moment log events []
cuts_none moment log events is = record { front = []; behind = events; later = moment; all = refl; same = refl; is = is }

log_coming : (waited : Bool) (arrivals : List Arrival) (moment : ℕ) (log : List Happening) (events : List Event)
    → IsLogOf moment (coming waited arrivals ++ log) events → Cuts moment log events (map event_of arrivals)
log_coming waited [] moment log events is = cuts_none moment log events is
log_coming waited (a ∷ arrivals) moment log [] is = absurd is
log_coming waited (a ∷ arrivals) moment log (event ∷ events) is =
    let later = log_coming false arrivals event.moment log events is.1.1 in
    let one : event_of a ≡ cut_event event = cc (is.0, is.1.0) in
    record {
      front = event ∷ later.front;
      behind = later.behind;
      later = later.later;
      all = ap (λ r. event ∷ r) later.all;
      same = ap (λ e. e ∷ map event_of arrivals) one ∙ ap (λ r. cut_event event ∷ r) later.same;
      is = later.is;
    }

log_packet : (sent : Bool) (response : Response) (moment : ℕ) (log : List Happening) (events : List Event)
    → IsLogOf moment (packets_in sent response ++ log) events → IsLogOf moment log events
log_packet sent (responses.Reply destination bytes) moment log events is = is
log_packet sent (responses.Quiet reason) moment log events is = is

log_packets : (answers : List Answered) (moment : ℕ) (log : List Happening) (events : List Event)
    → IsLogOf moment (flat_map packets_of answers ++ log) events → IsLogOf moment log events
log_packets [] moment log events is = is
log_packets (a ∷ answers) moment log events is =
    let P : List Happening → Type 0 = λ l. IsLogOf moment l events in
    log_packets answers moment log events
    (log_packet a.sent a.handled.response moment (flat_map packets_of answers ++ log) events
    (subst P (append_assoc (packets_in a.sent a.handled.response) (flat_map packets_of answers) log) is))

-- the events that were served are those that came, cut off
pub log_batches : (list : List Batch) (moment : ℕ) (events : List Event) → IsLogOf moment (flat_map trace_of list) events → flat_map events_in list ≡ map cut_event events
log_batches [] moment [] is = refl
log_batches [] moment (event ∷ events) is = absurd is
log_batches (b ∷ list) moment events is =
    let P : List Happening → Type 0 = λ l. IsLogOf moment l events in
    let packets = flat_map packets_of b.answers in
    let later = flat_map trace_of list in
    let whole = subst P (append_assoc (coming true b.arrivals) (clocks_asked b.clocks) (packets ++ later)) (subst P (append_assoc (gathering b.arrivals b.clocks) packets later) is) in
    let came = log_coming true b.arrivals moment (clocks_asked b.clocks ++ packets ++ later) events whole in
    let rest = log_batches list came.later came.behind (log_packets b.answers came.later later came.behind came.is.1) in
    ap (λ es. es ++ flat_map events_in list) came.same ∙ ap (λ es. map cut_event came.front ++ es) rest
    ∙ sym (map-append cut_event came.front came.behind) ∙ sym (ap (map cut_event) came.all)

events_length : (list : List Batch) → length (flat_map events_in list) ≡ length (flat_map (λ (b : Batch). b.arrivals) list)
events_length [] = refl
events_length (b ∷ list) =
    omega (arith, length-append (events_in b) (flat_map events_in list), length-append b.arrivals (flat_map (λ (b : Batch). b.arrivals) list), length-map b.arrivals event_of, events_length list)

module _ {H : Type 0} (latest : H → ℕ) (batches : H → List Event → List Handled → Option ServeFault → H → Type 0) (input : List Event) (log : List Happening)
    (journal : List ℕ) (server new : H) (old out : Traffic) (came : HasCome input log) (none : old.trace ≡ Some []) (all : out.trace ≡ Some log)
    (empty : old.recorded ≡ Some []) (put : out.recorded ≡ Some journal) where
  -- if as many were served as the input has, these are the input's events
  events_are : (b : HasBegun None latest batches (Ok tt) (length input) server new old out) → flat_map events_in b.goes.1.list ≡ map cut_event input
  events_are b =
      let served = b.goes.1 in
      let P : List Happening → Type 0 = λ l. IsLogOf 0 l came.first in
      let more = flat_map trace_of served.list in
      let passed = passes_then old b.begun out _ _ _ _ _ _ b.asked served.passes in
      let grows : Grows (Some []) (Some log) (clocks_asked b.clocks ++ more) = subst (λ (t : Option (List Happening)). Grows t (Some log) (clocks_asked b.clocks ++ more)) none
      (subst (λ (t : Option (List Happening)). Grows old.trace t (clocks_asked b.clocks ++ more)) all passed.trace_grows) in
      let events = log_batches served.list 0 came.first (subst P grows came.is).1 in
      let count : length came.first ≡ length input =
      sym (length-map came.first cut_event) ∙ sym (ap length events) ∙ events_length served.list ∙ served.counted in
      let rest : came.rest ≡ [] = nil_from_length came.rest (omega (arith, ap length came.all, length-append came.first came.rest)) in
      let whole : came.first ≡ input = sym (append-nil came.first) ∙ ap (λ r. came.first ++ r) (sym rest) ∙ sym came.all in
      events ∙ ap (map cut_event) whole

  pub serves_all : (result : Result Unit LoopFault) → ServesTo None latest batches result (length input) server new old out → OnOk result (ServesInput latest batches input server new)
  serves_all (Ok done) (inl b) = record { list = b.goes.1.list; events = events_are b; first = b.clocks; last = b.goes.0; follow = b.goes.1.follow }
  serves_all (Ok done) (inr n) = absurd n.1
  serves_all (Err fault) served = tt

  -- and what was recorded is a replay of the input
  pub records_all : (result : Result Unit LoopFault) → ServesTo None latest batches result (length input) server new old out
      → OnOk result (AreEvents (lines_of journal) (map cut_event input))
  records_all (Ok done) (inl b) =
      let served = b.goes.1 in
      let more = flat_map record_of served.list in
      let passed = passes_then old b.begun out _ _ _ _ _ _ b.asked served.passes in
      let lines : journal ≡ more = subst (λ (t : Option (List ℕ)). Appends t (Some journal) more) empty
      (subst (λ (t : Option (List ℕ)). Appends old.recorded t more) put passed.recorded_grows) in
      let P : List ℕ → List Event → Type 0 = λ text events. AreEvents (lines_of text) events in
      subst (P journal) (events_are b) (subst (λ (text : List ℕ). P text (flat_map events_in served.list)) (sym lines) (batches_replay served.list))
  records_all (Ok done) (inr n) = absurd n.1
  records_all (Err fault) served = tt
