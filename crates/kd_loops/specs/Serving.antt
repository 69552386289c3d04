-- Datagrams that are served in batches as they arrive: what is recorded, handled, sent and written,
-- and when serving ends because the clock is ahead.
use Rattle.std.specs.Prelude.{◌≡◌, ◌≢◌, ◌⊎◌, ℕ, ◌+◌, ◌<◌, ◌≤◌, Bool, true, false, List, [], ◌∷◌, ◌++◌, Option, None, Some, Result, Ok, Err, codes, length, map}
use Rattle.std.specs.List.{All, flat_map, list_any}
use Rattle.std.specs.Io.KnownBytes.{Appends}
use Rattle.kd_event.specs.declared.event.Event.{Event}
use Rattle.kd_event.specs.declared.event.Handled.{Handled}
use Rattle.kd_event.specs.declared.event.Response.{Response}
use Rattle.kd_event.specs.declared.event.Response.TheVariants as responses
use Rattle.kd_loops.specs.Ahead.{clocks_asked, is_ahead, is_behind}
use Rattle.kd_loops.specs.Arriving.{Arrival, IsRecordable, coming, event_of}
use Rattle.kd_loops.specs.Recording.{record_line}
use Rattle.kd_loops.specs.Text.{line_of}
use Rattle.kd_loops.specs.Trace.{Grows}
use Rattle.kd_loops.specs.declared.clocks.Clocks.{Clocks}
use Rattle.kd_loops.specs.declared.ends.Sink.{Ghosts as Sinks}
use Rattle.kd_loops.specs.declared.fault.LoopFault.{LoopFault}
use Rattle.kd_loops.specs.declared.fault.LoopFault.TheVariants as faults
use Rattle.kd_loops.specs.declared.fault.ServeFault.{ServeFault}
use Rattle.kd_loops.specs.declared.fault.ServeFault.TheVariants as serving
use Rattle.kd_loops.specs.declared.happening.Happening.{Happening}
use Rattle.kd_loops.specs.declared.happening.Happening.TheVariants as happens
use Rattle.kd_loops.specs.declared.link.Link.{Ghosts as Links}

-- what is handed over for a response, given whether it was sent
abbrev pub packets_in : Bool → Response → List Happening
packets_in sent (responses.Reply destination bytes) =
    happens.Went (record { destination = destination; bytes = bytes; sent = sent }) ∷ []
packets_in sent (responses.Quiet reason) = []

-- the line that says that a reply could not be sent
abbrev pub send_fault : List ℕ
send_fault = codes "fault 99 Send\n"

-- what is written after the line of a datagram: if its reply was not sent, the line that says so
abbrev pub behind_line : Bool → Response → List ℕ
behind_line false (responses.Reply destination bytes) = send_fault
behind_line false (responses.Quiet reason) = []
behind_line true response = []

-- a handled datagram, and whether its reply, if it has one, was sent
pub record Answered : Type 0 where
  pub handled : Handled
  pub sent : Bool

-- what is handed over for an answered datagram
abbrev pub packets_of : Answered → List Happening
packets_of answered = packets_in answered.sent answered.handled.response

-- what is written for an answered datagram
abbrev pub text_of : Answered → List ℕ
text_of answered = line_of answered.handled ++ behind_line answered.sent answered.handled.response

-- datagrams that arrived together, each an event that a record can represent; the readings of the
-- clocks once they had come; and what was done with the datagrams
pub record Batch : Type 0 where
  pub arrivals : List Arrival
  pub recordable : All IsRecordable (map event_of arrivals)
  pub clocks : Clocks
  pub answers : List Answered

-- the events of a batch
abbrev pub events_in : Batch → List Event
events_in b = map event_of b.arrivals

-- what was done with the events of a batch
abbrev pub handled_in : Batch → List Handled
handled_in b = map (λ a. a.handled) b.answers

-- datagrams arrive, and then the clocks are read
abbrev pub gathering : List Arrival → Clocks → List Happening
gathering arrivals clocks = coming true arrivals ++ clocks_asked clocks

-- what happens at the link in a batch: its datagrams come, the clocks are read, and then its
-- replies are handed over
abbrev pub trace_of : Batch → List Happening
trace_of b = gathering b.arrivals b.clocks ++ flat_map packets_of b.answers

-- what is recorded of a batch: the lines of its events
abbrev pub record_of : Batch → List ℕ
record_of b = flat_map record_line (events_in b)

-- what is written for a batch
abbrev pub texts_of : Batch → List ℕ
texts_of b = flat_map text_of b.answers

-- the contents of a journal, if there is one and they are known
abbrev pub contents_in : {R : Type 0} → Sinks R → Option R → Option (List ℕ)
contents_in r None = None
contents_in r (Some journal) = r.contents journal

-- whether there is a journal that has failed
abbrev pub failed_in : {R : Type 0} → Sinks R → Option R → Bool
failed_in r None = false
failed_in r (Some journal) = r.has_failed journal

-- what has happened at the link, and what was recorded and written so far, if it is known
pub record Traffic : Type 0 where
  pub trace : Option (List Happening)
  pub recorded : Option (List ℕ)
  pub written : Option (List ℕ)

-- nothing has happened, and everything is known
abbrev pub nothing : Traffic
nothing = record { trace = Some []; recorded = Some []; written = Some [] }

-- the traffic of a link, an optional journal, and a sink
abbrev pub traffic : {L R W : Type 0} → Links L → Sinks R → Sinks W → L → Option R → W → Traffic
traffic l r w link journal sink = record {
  trace = l.trace link;
  recorded = contents_in r journal;
  written = w.contents sink;
}

-- these things happen at the link, in this order, and these bytes are recorded and written
pub record Passes (old out : Traffic) (trace : List Happening)
    (recorded written : List ℕ) : Type 0 where
  pub trace_grows : Grows old.trace out.trace trace
  pub recorded_grows : Appends old.recorded out.recorded recorded
  pub written_grows : Appends old.written out.written written

-- a server, and the earlier readings of the clocks
pub record Timed (H : Type 0) : Type 0 where
  pub server : H
  pub clocks : Clocks

-- by how many seconds the clock may be ahead; the latest change of the server's table; and the
-- relation that says what a batch gives: the server before it, its events, what was done with the
-- first of them, the fault of the next, and the server after it
module _ {H : Type 0} (limit : Option ℕ) (latest : H → ℕ)
    (batches : H → List Event → List Handled → Option ServeFault → H → Type 0) where
  -- whether one of the events that arrived is ahead
  abbrev pub ran_ahead : Timed H → Clocks → List Event → Bool
  ran_ahead old clocks events = list_any
      (λ event. is_ahead limit (latest old.server) old.clocks clocks.steady event.moment) events

  -- consecutive batches, with no event ahead and all handled, from the old server to the new one
  abbrev pub Follow : Timed H → List Batch → Timed H → Type 0
  Follow old [] new = new ≡ old
  Follow old (b ∷ more) new =
      (ran_ahead old b.clocks (events_in b) ≡ false)
      × ((mid : H) × batches old.server (events_in b) (handled_in b) None mid
      × Follow (record { server = mid; clocks = b.clocks }) more new)

  -- this many datagrams were served, in batches: their events were recorded and handled, their
  -- replies were handed over to be sent, and their texts were written, in that order
  pub record HasServed (count : ℕ) (old new : Timed H) (before after : Traffic) : Type 0 where
    pub list : List Batch
    pub counted : length (flat_map (λ b. b.arrivals) list) ≡ count
    pub follow : Follow old list new
    pub passes : Passes before after (flat_map trace_of list) (flat_map record_of list)
        (flat_map texts_of list)

  -- one of the events that arrived is ahead, and none of them is recorded or handled
  pub record HasRunAhead (left : ℕ) (old : Timed H) (before after : Traffic) : Type 0 where
    pub arrivals : List Arrival
    pub few : length arrivals ≤ left
    pub clocks : Clocks
    pub ahead : ran_ahead old clocks (map event_of arrivals) ≡ true
    pub passes : Passes before after (gathering arrivals clocks) [] []

  -- none of the events that arrived is ahead; a prefix of their lines is recorded, and none of them
  -- is handled
  pub record IsUnrecorded (left : ℕ) (old : Timed H) (before after : Traffic) : Type 0 where
    pub arrivals : List Arrival
    pub few : length arrivals ≤ left
    pub recordable : All IsRecordable (map event_of arrivals)
    pub clocks : Clocks
    pub in_time : ran_ahead old clocks (map event_of arrivals) ≡ false
    pub part : List ℕ
    pub more : List ℕ
    pub cut : flat_map record_line (map event_of arrivals) ≡ part ++ more
    pub passes : Passes before after (gathering arrivals clocks) part []

  -- a batch has a fault: its events, none of them ahead, were recorded; those before the fault were
  -- handled, their replies were handed over and their texts written
  pub record HasFailed (fault : ServeFault) (left : ℕ) (old : Timed H) (new : H)
      (before after : Traffic) : Type 0 where
    pub batch : Batch
    pub few : length batch.arrivals ≤ left
    pub in_time : ran_ahead old batch.clocks (events_in batch) ≡ false
    pub given : batches old.server (events_in batch) (handled_in batch) (Some fault) new
    pub passes : Passes before after (trace_of batch) (record_of batch) (texts_of batch)

  -- a batch with no event ahead was recorded and handled; some of its first replies were handed
  -- over, and a prefix of the text of the last of these was written
  pub record HasCut (left : ℕ) (old : Timed H) (new : H) (before after : Traffic) : Type 0 where
    pub arrivals : List Arrival
    pub few : length arrivals ≤ left
    pub recordable : All IsRecordable (map event_of arrivals)
    pub clocks : Clocks
    pub in_time : ran_ahead old clocks (map event_of arrivals) ≡ false
    pub told : List Answered
    pub last : Answered
    pub untold : List Handled
    pub fault : Option ServeFault
    pub given : batches old.server (map event_of arrivals)
        (map (λ a. a.handled) told ++ last.handled ∷ untold) fault new
    pub part : List ℕ
    pub more : List ℕ
    pub cut : text_of last ≡ part ++ more
    pub passes : Passes before after
        (gathering arrivals clocks ++ flat_map packets_of (told ++ last ∷ []))
        (flat_map record_line (map event_of arrivals)) (flat_map text_of told ++ part)

  -- how serving ends at a batch: no datagram could be received; the clock is ahead; its record
  -- could not be written; the server is out of memory or has another fault; or its text could not
  -- be written
  abbrev pub EndsServing : LoopFault → ℕ → Timed H → H → Traffic → Traffic → Type 0
  EndsServing faults.Read left old new before after = (new ≡ old.server) × (after ≡ before)
  EndsServing faults.Ahead left old new before after =
      (new ≡ old.server) × HasRunAhead left old before after
  EndsServing faults.Record left old new before after =
      (new ≡ old.server) × IsUnrecorded left old before after
  EndsServing faults.Memory left old new before after =
      HasFailed serving.Memory left old new before after
  EndsServing (faults.Serve fault) left old new before after =
      (fault ≢ serving.Memory) × HasFailed fault left old new before after
  EndsServing faults.Write left old new before after = HasCut left old new before after

  -- some datagrams were served, fewer than were asked for, and serving ends at the next batch
  pub record EndsAfter (fault : LoopFault) (count : ℕ) (old : Timed H) (new : H)
      (before after : Traffic) : Type 0 where
    pub done : ℕ
    pub left : ℕ
    pub all : done + left ≡ count
    pub some : 0 < left
    pub mid : Timed H
    pub between : Traffic
    pub served : HasServed done old mid before between
    pub ends : EndsServing fault left mid new between after

  -- after the start, all datagrams that were asked for are served, or serving ends after some of
  -- them
  abbrev pub ServesOn : Result Unit LoopFault → ℕ → Timed H → H → Traffic → Traffic → Type 0
  ServesOn (Ok done) count start new begun after =
      (clocks : Clocks)
      × HasServed count start (record { server = new; clocks = clocks }) begun after
  ServesOn (Err fault) count start new begun after = EndsAfter fault count start new begun after

  -- the clocks are read at the start, the clock is not behind the latest change, and serving goes
  -- on
  pub record HasBegun (result : Result Unit LoopFault) (count : ℕ) (server new : H)
      (before after : Traffic) : Type 0 where
    pub clocks : Clocks
    pub begun : Traffic
    pub asked : Passes before begun (clocks_asked clocks) [] []
    pub in_time : is_behind limit (latest server) clocks.moment ≡ false
    pub goes : ServesOn result count (record { server = server; clocks = clocks }) new begun after

  -- serving does not begin: there is not enough memory, and nothing happens; or the clocks are
  -- read, and the clock is behind the latest change
  abbrev pub IsNotBegun : Result Unit LoopFault → H → Traffic → Traffic → Type 0
  IsNotBegun (Err faults.Memory) server before after = after ≡ before
  IsNotBegun (Err faults.Ahead) server before after =
      (clocks : Clocks) × (is_behind limit (latest server) clocks.moment ≡ true)
      × Passes before after (clocks_asked clocks) [] []
  IsNotBegun result server before after = ⊥

  -- serving, by its result: either it begins, and all datagrams that were asked for are served or
  -- it ends after some of them; or it does not begin
  abbrev pub ServesTo : Result Unit LoopFault → ℕ → H → H → Traffic → Traffic → Type 0
  ServesTo result count server new before after =
      HasBegun result count server new before after
      ⊎ ((new ≡ server) × IsNotBegun result server before after)
