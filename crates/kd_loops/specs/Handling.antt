-- Helpers of private contracts only: the room for a line, and the result of handling and writing an
-- event.
use Rattle.std.specs.Prelude.{◌≡◌, ◌≢◌, ℕ, List, Option}
use Rattle.std.specs.Io.KnownBytes.{Appends}
use Rattle.kd_loops.specs.Parts.{WritesPart}
use Rattle.kd_loops.specs.Text.{line_of}
use Rattle.kd_event.specs.declared.event.Event.{Event}
use Rattle.kd_event.specs.declared.event.Handled.{Handled}
use Rattle.kd_loops.specs.declared.fault.LoopFault.{LoopFault}
use Rattle.kd_loops.specs.declared.fault.LoopFault.TheVariants as looping
use Rattle.kd_loops.specs.declared.fault.ReplayFault.{ReplayFault}
use Rattle.kd_loops.specs.declared.fault.ReplayFault.TheVariants as faults
use Rattle.kd_loops.specs.declared.fault.ServeFault.{ServeFault}
use Rattle.kd_loops.specs.declared.fault.ServeFault.TheVariants as serving

-- the most bytes of a written line, with its line feed
abbrev pub line_room : ℕ
line_room = 4096

-- the most bytes of a line of a record, with its line feed; a written line, together with the line
-- of a reply that was not sent, is shorter
abbrev pub text_room : ℕ
text_room = 8216

-- how serving ends at a fault of handling events
abbrev pub loop_fault_of : ServeFault → LoopFault
loop_fault_of serving.MomentTooLarge = looping.Serve serving.MomentTooLarge
loop_fault_of serving.Memory = looping.Memory
loop_fault_of (serving.Store fault) = looping.Serve (serving.Store fault)
loop_fault_of serving.Failed = looping.Serve serving.Failed

module _ {H : Type 0} (gives : H → Event → Handled → H → Type 0) where
  -- an event is handled, and its text is written
  pub record HandlesEvent (event : Event) (server new : H)
      (contents written : Option (List ℕ)) : Type 0 where
    pub handled : Handled
    pub given : gives server event handled new
    pub appended : Appends contents written (line_of handled)

  -- an event is handled, and a prefix of its text is written
  pub record CutsEvent (event : Event) (server new : H)
      (contents written : Option (List ℕ)) : Type 0 where
    pub handled : Handled
    pub given : gives server event handled new
    pub cut : WritesPart contents written (line_of handled)

module _ {H : Type 0} (gives : H → Event → Handled → H → Type 0)
    (fails : H → Event → ServeFault → H → Type 0) where
  -- the result of a fault in handling an event or writing its text
  abbrev pub EndsEvent : ReplayFault → Event → H → H → Option (List ℕ) → Option (List ℕ) → Type 0
  EndsEvent faults.Memory event server new contents written = (new ≡ server) × (written ≡ contents)
  EndsEvent (faults.Serve fault) event server new contents written =
      fails server event fault new × (fault ≢ serving.Memory) × (written ≡ contents)
  EndsEvent faults.Write event server new contents written =
      CutsEvent gives event server new contents written
  EndsEvent faults.Read event server new contents written = ⊥
  EndsEvent (faults.BadLine number) event server new contents written = ⊥
