-- Which calls of a server a command makes: those of the datagrams that came, or of the lines that
-- were read, and what the calls returned is what was sent and written.
use Rattle.std.specs.Prelude.{◌≡◌, ◌⊎◌, ℕ, Bool, true, List, [], ◌∷◌, ◌++◌, Option, Some, None, Result, Ok, Err, map}
use Rattle.std.specs.Io.KnownBytes.{Appends}
use Rattle.std.specs.List.{flat_map}
use Rattle.kd_event.specs.declared.event.Handled.{Handled}
use Rattle.kd_keeps.specs.declared.keeps.Keeps.{Ghosts}
use Rattle.kd_laws.specs.Lives.{Call, Called}
use Rattle.kd_laws.specs.Lives.Call.{one, batch}
use Rattle.kd_loops.specs.Ahead.{clocks_asked}
use Rattle.kd_loops.specs.Arriving.{Arrival, event_of}
use Rattle.kd_loops.specs.Lines.{IsEventLine, lines_of}
use Rattle.kd_loops.specs.Recording.{record_line}
use Rattle.kd_loops.specs.Replay.{HasReplayed}
use Rattle.kd_loops.specs.Serving.{Answered, Batch, ServesTo, Traffic, events_in, gathering, handled_in, record_of, text_of, trace_of}
use Rattle.kd_loops.specs.Text.{line_of}
use Rattle.kd_loops.specs.Trace.{Grows}
use Rattle.kd_loops.specs.declared.clocks.Clocks.{Clocks}
use Rattle.kd_loops.specs.declared.fault.LoopFault.{LoopFault}
use Rattle.kd_loops.specs.declared.fault.ReplayFault.{ReplayFault}
use Rattle.kd_loops.specs.declared.fault.ServeFault.{ServeFault}
use Rattle.kd_loops.specs.declared.happening.Happening.{Happening}
use Rattle.kd_server.specs.Batch.{Batched}
use Rattle.kd_server.specs.Server.{ServerState, Refuses, Steps, latest_in}

-- calls of `handle_all`, one for each of these batches, in their order. Each handles all events of
-- its batch, and what it returns is handed over. Only the last may end with a fault, or return
-- results that are not handed over
abbrev pub AreCallsOfBatches : List Batch → List Call → Type 0
AreCallsOfBatches [] calls = calls ≡ []
AreCallsOfBatches (b ∷ []) calls =
    (left : List Handled) × (fault : Option ServeFault)
    × (calls ≡ batch (events_in b) (handled_in b ++ left) fault ∷ [])
AreCallsOfBatches (b ∷ c ∷ more) calls =
    (later : List Call) × (calls ≡ batch (events_in b) (handled_in b) None ∷ later)
    × AreCallsOfBatches (c ∷ more) later

-- before the first batch nothing happens, or the clocks are read
abbrev pub IsBeforeBatches : List Happening → Type 0
IsBeforeBatches trace = (trace ≡ []) ⊎ ((clocks : Clocks) × (trace ≡ clocks_asked clocks))

-- after the last batch nothing happens, or datagrams come that are not handled, of whose lines a
-- prefix, perhaps none, is recorded
abbrev pub IsAfterBatches : List Happening → List ℕ → Type 0
IsAfterBatches trace recorded =
    ((trace ≡ []) × (recorded ≡ []))
    ⊎ ((arrivals : List Arrival) × (clocks : Clocks) × (more : List ℕ)
    × (trace ≡ gathering arrivals clocks)
    × (flat_map record_line (map event_of arrivals) ≡ recorded ++ more))

-- these texts are written whole, or up to some place in the last of them
abbrev pub IsWritten : List Answered → List ℕ → Type 0
IsWritten answers text =
    (text ≡ flat_map text_of answers)
    ⊎ ((told : List Answered) × (last : Answered) × (part : List ℕ) × (more : List ℕ)
    × (answers ≡ told ++ last ∷ []) × (text_of last ≡ part ++ more)
    × (text ≡ flat_map text_of told ++ part))

-- the traffic of calls of `handle_all`: each call is a batch of datagrams that came, and what the
-- calls returned was handed over to be sent and was written, in that order, and nothing else
pub record IsTrafficOf (calls : List Call) (before after : Traffic) : Type 0 where
  pub batches : List Batch
  pub are : AreCallsOfBatches batches calls
  pub first : List Happening
  pub first_is : IsBeforeBatches first
  pub last : List Happening
  pub unhandled : List ℕ
  pub last_is : IsAfterBatches last unhandled
  pub trace : Grows before.trace after.trace (first ++ (flat_map trace_of batches ++ last))
  pub recorded : Appends before.recorded after.recorded (flat_map record_of batches ++ unhandled)
  pub text : List ℕ
  pub written : IsWritten (flat_map (λ b. b.answers) batches) text
  pub grows : Appends before.written after.written text

-- whatever comes over a link, what a server does while serving it is calls of `handle_all`, those of
-- the traffic, however serving ends
abbrev pub ServingIsCalls : {S : Type 0} → Ghosts S → Type 0
ServingIsCalls {S} g =
    (limit : Option ℕ) (result : Result Unit LoopFault) (count : ℕ) (old new : ServerState S)
    (before after : Traffic)
    → ServesTo limit latest_in (Batched g) result count old new before after
    → (calls : List Call) × Called g old calls new × IsTrafficOf calls before after

-- calls of `handle` for the first of some lines, in their order, each with the event of its line;
-- and the lines of what they returned, the last of them perhaps only in part. Only the last call may
-- return a fault
abbrev pub AreCallsOfLines : List (List ℕ) → List Call → List ℕ → Type 0
AreCallsOfLines lines [] text = text ≡ []
AreCallsOfLines [] (call ∷ calls) text = ⊥
AreCallsOfLines (line ∷ lines) (one event (Ok handled) ∷ calls) text =
    IsEventLine line event
    × (((later : List ℕ) × (text ≡ line_of handled ++ later) × AreCallsOfLines lines calls later)
    ⊎ ((more : List ℕ) × (line_of handled ≡ text ++ more) × (calls ≡ [])))
AreCallsOfLines (line ∷ lines) (one event (Err fault) ∷ calls) text =
    IsEventLine line event × (text ≡ []) × (calls ≡ [])
AreCallsOfLines (line ∷ lines) (batch events list fault ∷ calls) text = ⊥

-- calls of `handle` for the first lines of an input, if its bytes are known: the lines of what they
-- returned were written, and nothing else
abbrev pub IsReplayOf : List Call → Option (List ℕ) → Option (List ℕ) → Option (List ℕ) → Type 0
IsReplayOf calls input old new =
    (bytes before : List ℕ) → input ≡ Some bytes → old ≡ Some before
    → (text : List ℕ) × AreCallsOfLines (lines_of bytes) calls text × (new ≡ Some (before ++ text))

-- what a replay does with a server is calls of `handle`, those of the lines that it reads, however it
-- ends
abbrev pub ReplayingIsCalls : {S : Type 0} → Ghosts S → Type 0
ReplayingIsCalls {S} g =
    (failed : Bool) (result : Result ℕ ReplayFault) (old new : ServerState S)
    (input left before after : Option (List ℕ))
    → HasReplayed (Steps g) (Refuses g) (failed ≡ true) result old new input left before after
    → (calls : List Call) × Called g old calls new × IsReplayOf calls input before after
