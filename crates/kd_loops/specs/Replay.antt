-- A replay: which lines of the input are handled, what is written for them, and how it ends.
use Rattle.std.specs.Prelude.{◌≡◌, ◌≢◌, ℕ, ◌+◌, ◌<◌, ◌≤◌, IfOk, List, [], ◌∷◌, ◌++◌, ◌⊎◌, Option, Some, Result, Ok, Err, length}
use Rattle.std.specs.List.{flat_map}
use Rattle.std.specs.Result.{IsErrOf}
use Rattle.kd_loops.specs.History.{History, Reaches}
use Rattle.kd_loops.specs.Lines.{HasMoment, IsEventLine, line_feeds, lines_of}
use Rattle.kd_loops.specs.Text.{line_of}
use Rattle.kd_event.specs.declared.event.Event.{Event}
use Rattle.kd_event.specs.declared.event.Handled.{Handled}
use Rattle.kd_loops.specs.declared.fault.ReplayFault.{ReplayFault}
use Rattle.kd_loops.specs.declared.fault.ReplayFault.TheVariants as faults
use Rattle.kd_loops.specs.declared.fault.ServeFault.{ServeFault}
use Rattle.kd_loops.specs.declared.fault.ServeFault.TheVariants as serving

-- the most lines that are handled
abbrev pub most_lines : ℕ
most_lines = 1000000

-- each line is the event at its place
abbrev pub AreEvents : List (List ℕ) → List Event → Type 0
AreEvents [] [] = Unit {0}
AreEvents (line ∷ lines) (event ∷ events) = IsEventLine line event × AreEvents lines events
AreEvents [] (event ∷ events) = ⊥
AreEvents (line ∷ lines) [] = ⊥

-- there is a first line, and it has the property
abbrev pub FirstLineIs : (List ℕ → Type 0) → List (List ℕ) → Type 0
FirstLineIs IsSuch [] = ⊥
FirstLineIs IsSuch (line ∷ lines) = IsSuch line

-- a line is not an event
abbrev pub IsNoEvent : List ℕ → Type 0
IsNoEvent line = (event : Event) → ¬ IsEventLine line event

-- the relation that says what one event gives
module _ {H : Type 0} (gives : H → Event → Handled → H → Type 0) where
  -- this many events are handled
  pub record Handles (count : ℕ) (server new : H) : Type 0 where
    pub events : List Event
    pub list : List Handled
    pub counted : length events ≡ count
    pub history : History gives server events list new

  -- lines are handled: they are events that have a history, and the text of the history is written
  pub record Did (lines : List (List ℕ)) (server new : H) (old out : List ℕ) : Type 0 where
    pub events : List Event
    pub list : List Handled
    pub spelled : AreEvents lines events
    pub history : History gives server events list new
    pub written : out ≡ old ++ flat_map line_of list

  -- the lines that a source gave whole before it failed, each with its line feed, are handled, and
  -- the text of the handled lines is written
  pub record HandlesWhole (input : List ℕ) (left : Option (List ℕ)) (server new : H) (old : List ℕ)
      (contents : Option (List ℕ)) : Type 0 where
    pub given : List ℕ
    pub rest : List ℕ
    pub out : List ℕ
    pub before : List (List ℕ)
    pub after : List (List ℕ)
    pub all : input ≡ given ++ rest
    pub known : left ≡ Some rest
    pub told : contents ≡ Some out
    pub lines : lines_of input ≡ before ++ after
    pub whole : line_feeds given ≤ length before
    pub did : Did before server new old out

  -- a line's event is handled, and a prefix of its text is written
  pub record Cuts (line : List ℕ) (server new : H) (old out : List ℕ) : Type 0 where
    pub event : Event
    pub handled : Handled
    pub part : List ℕ
    pub more : List ℕ
    pub spelled : IsEventLine line event
    pub given : gives server event handled new
    pub cut : line_of handled ≡ part ++ more
    pub written : out ≡ old ++ part

-- the relation that says what a fault leaves
module _ {H : Type 0} (fails : H → Event → ServeFault → H → Type 0) where
  -- a line's event has a fault, other than out of memory
  pub record LineFails (fault : ServeFault) (line : List ℕ) (server new : H) : Type 0 where
    pub event : Event
    pub spelled : IsEventLine line event
    pub failed : fails server event fault new
    pub other : fault ≢ serving.Memory

module _ {H : Type 0} (gives : H → Event → Handled → H → Type 0)
    (fails : H → Event → ServeFault → H → Type 0) where
  -- how a replay ends at the line with a number, the first of the remaining lines: at a line that
  -- is not an event, at a fault of its event, while its text is written, if the source has failed
  -- or there is one line too many, or out of memory, which can happen at the start or at a line
  -- whose time can be read
  abbrev pub Ends : Type 0 → ReplayFault → ℕ → List (List ℕ) → H → H → List ℕ → List ℕ → Type 0
  Ends source_failed (faults.BadLine k) number lines server new old out =
      (k ≡ number) × FirstLineIs IsNoEvent lines × (new ≡ server) × (out ≡ old)
  Ends source_failed (faults.Serve fault) number lines server new old out =
      FirstLineIs (λ line. LineFails fails fault line server new) lines × (out ≡ old)
  Ends source_failed faults.Write number lines server new old out =
      FirstLineIs (λ line. Cuts gives line server new old out) lines
  Ends source_failed faults.Read number lines server new old out =
      (source_failed ⊎ ((number ≡ most_lines + 1) × (0 < length lines))) × (new ≡ server)
      × (out ≡ old)
  Ends source_failed faults.Memory number lines server new old out =
      ((number ≡ 1) ⊎ FirstLineIs HasMoment lines) × (new ≡ server) × (out ≡ old)

  -- a replay stops: the lines before are handled, and it ends at the next, which is one of the
  -- first 1,000,000 unless the source has failed or there is one line too many
  pub record Stops (source_failed : Type 0) (fault : ReplayFault) (lines : List (List ℕ))
      (server new : H) (old out : List ℕ) : Type 0 where
    pub before : List (List ℕ)
    pub after : List (List ℕ)
    pub mid : H
    pub between : List ℕ
    pub all : lines ≡ before ++ after
    pub few : length before ≤ most_lines
    pub early : (fault ≡ faults.Read) ⊎ (length before < most_lines)
    pub did : Did gives before server mid old between
    pub ends : Ends source_failed fault (length before + 1) after mid new between out

  -- a replay: all lines are handled, at most 1,000,000, and the result is their number; or it stops
  -- with its fault
  abbrev pub Replays : Type 0 → Result ℕ ReplayFault → List (List ℕ) → H → H → List ℕ → List ℕ
      → Type 0
  Replays source_failed (Ok count) lines server new old out =
      (count ≡ length lines) × (count ≤ most_lines) × Did gives lines server new old out
  Replays source_failed (Err fault) lines server new old out =
      Stops source_failed fault lines server new old out

  -- what replaying an input leaves in the sink, if the sink's contents are known
  pub record LeavesWritten (source_failed : Type 0) (result : Result ℕ ReplayFault) (input : List ℕ)
      (server new : H) (old : List ℕ) (contents : Option (List ℕ)) : Type 0 where
    pub out : List ℕ
    pub told : contents ≡ Some out
    pub replays : Replays source_failed result (lines_of input) server new old out

  -- a replay of a source to a sink, by its result. If the bytes of both are known, this is what it
  -- writes; if the source fails, the lines that it gave whole are handled, or 1,000,000 lines.
  -- Whether or not the bytes are known, events are handled one after another, as many as the result
  -- says
  pub record HasReplayed (source_failed : Type 0) (result : Result ℕ ReplayFault) (server new : H)
      (input left old contents : Option (List ℕ)) : Type 0 where
    pub leaves : (bytes text : List ℕ) → input ≡ Some bytes → old ≡ Some text
        → LeavesWritten source_failed result bytes server new text contents
    pub read : IsErrOf result faults.Read → source_failed ⊎ Handles gives most_lines server new
    pub whole : IsErrOf result faults.Read → (bytes text : List ℕ) → input ≡ Some bytes
        → old ≡ Some text
        → HandlesWhole gives bytes left server new text contents
        ⊎ Handles gives most_lines server new
    pub counted : IfOk result (λ count. Handles gives count server new)
    pub reached : Reaches gives fails server new
