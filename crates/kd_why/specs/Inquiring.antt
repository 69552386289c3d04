-- An input line that is explained, over the rows that the events of the lines before it leave.
use Rattle.std.specs.Prelude.{◌≡◌, ◌⊎◌, ◌+◌, ◌≤◌, ◌<◌, ◌++◌, ◌∷◌, ℕ, List, Option, Some, Result, Ok, Err, length}
use Rattle.kd_event.specs.declared.event.Event.{Event}
use Rattle.kd_event.specs.declared.event.Handled.{Handled}
use Rattle.kd_loops.specs.History.{History}
use Rattle.kd_loops.specs.Lines.{IsEventLine, lines_of}
use Rattle.kd_loops.specs.Replay.{AreEvents, IsNoEvent, most_lines}
use Rattle.kd_loops.specs.declared.fault.ReplayFault.{ReplayFault}
use Rattle.kd_loops.specs.declared.fault.ReplayFault.TheVariants as faults
use Rattle.kd_loops.specs.declared.fault.ServeFault.{ServeFault}
use Rattle.kd_loops.specs.declared.fault.ServeFault.TheVariants as serving
use Rattle.kd_server.specs.Trial.{TriesStep, Trying}
use Rattle.kd_why.specs.Saying.{ExplainsEvent, IsUnsaid}

-- a line of an input with its number, and what the events of the lines before it leave
pub record IsLineAt (t : Trying) (input : List ℕ) (number : ℕ) (line : List ℕ)
    (mid : Trying) : Type 0 where
  pub before : List (List ℕ)
  pub after : List (List ℕ)
  pub all : lines_of input ≡ before ++ line ∷ after
  pub counted : length before + 1 ≡ number
  pub events : List Event
  pub list : List Handled
  pub spelled : AreEvents before events
  pub history : History TriesStep t events list mid

-- the line with this number is an event, and the text explains it
pub record IsExplainedAt (t : Trying) (input : List ℕ) (number : ℕ) (text : List ℕ) : Type 0 where
  pub line : List ℕ
  pub mid : Trying
  pub at : IsLineAt t input number line mid
  pub event : Event
  pub spelled : IsEventLine line event
  pub explains : ExplainsEvent mid event text

-- a line with this number or a smaller one is not an event, and those before it are
pub record IsBadAt (t : Trying) (input : List ℕ) (number k : ℕ) : Type 0 where
  pub line : List ℕ
  pub mid : Trying
  pub at : IsLineAt t input k line mid
  pub within : k ≤ number
  pub bad : IsNoEvent line

-- a line with this number or a smaller one is an event that is not explained, because of this fault
pub record IsUnsaidAt (t : Trying) (input : List ℕ) (number : ℕ) (fault : ServeFault) : Type 0 where
  pub k : ℕ
  pub line : List ℕ
  pub mid : Trying
  pub at : IsLineAt t input k line mid
  pub within : k ≤ number
  pub event : Event
  pub spelled : IsEventLine line event
  pub why : IsUnsaid event.moment fault

-- why the line of an input with a number is not explained: a line up to it is bad, or there is no
-- line with the number; its event or one before it has a fault; the source has failed, or has too
-- many lines; or memory ran out
abbrev pub IsNotExplained : Type 0 → Trying → List ℕ → ℕ → ReplayFault → Type 0
IsNotExplained source_failed t input number (faults.BadLine k) =
    IsBadAt t input number k ⊎ ((k ≡ number) × ((number ≡ 0) ⊎ (length (lines_of input) < number)))
IsNotExplained source_failed t input number (faults.Serve fault) = IsUnsaidAt t input number fault
IsNotExplained source_failed t input number faults.Read =
    source_failed ⊎ (most_lines < length (lines_of input))
IsNotExplained source_failed t input number faults.Write = ⊥
IsNotExplained source_failed t input number faults.Memory = Unit {0}

-- what contracts see of an inquiry: the trial, how many events come before the one to be explained,
-- and the text, once there is one
pub record Inquiring : Type 0 where
  pub trial : Trying
  pub left : ℕ
  pub text : Option (List ℕ)

-- an event before the one to be explained: the trial's step
pub record IsEarlier (old : Inquiring) (event : Event) (handled : Handled)
    (new : Inquiring) : Type 0 where
  pub step : TriesStep old.trial event handled new.trial
  pub left : old.left ≡ new.left + 1
  pub text : new.text ≡ old.text

-- an event is explained
pub record IsSaid (old : Inquiring) (event : Event) (new : Inquiring) : Type 0 where
  pub text : List ℕ
  pub now : new.text ≡ Some text
  pub explains : ExplainsEvent old.trial event text

-- an event is not explained, and nothing changes
pub record IsLeftUnsaid (old : Inquiring) (event : Event) (fault : ServeFault)
    (new : Inquiring) : Type 0 where
  pub same : new ≡ old
  pub why : IsUnsaid event.moment fault

-- the event to be explained is reached
abbrev pub IsReached : Inquiring → Event → ServeFault → Inquiring → Type 0
IsReached old event fault new =
    ((fault ≡ serving.Failed) × IsSaid old event new) ⊎ IsLeftUnsaid old event fault new

-- how the replay ends at an event: it is the one to be explained, or one before it has a fault
abbrev pub IsEnding : Inquiring → Event → ServeFault → Inquiring → Type 0
IsEnding old event fault new =
    ((old.left ≡ 0) × IsReached old event fault new) ⊎ IsLeftUnsaid old event fault new

-- why a line is not explained, given how the replay of the lines before it ended: there is no such
-- line, or no memory for what a replay writes, or the fault of the replay
abbrev pub ending_fault : Result ℕ ReplayFault → ℕ → ReplayFault
ending_fault (Ok count) number = faults.BadLine number
ending_fault (Err faults.Write) number = faults.Memory
ending_fault (Err fault) number = fault
