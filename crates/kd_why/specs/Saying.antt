-- The text of an explanation: what there is to say of a datagram, and the line at its end.
use Rattle.std.specs.Prelude.{◌≡◌, ◌++◌, ◌^◌, ◌<◌, ◌≤◌, ℕ, List}
use Rattle.kd_event.specs.declared.event.Event.{Event}
use Rattle.kd_event.specs.declared.event.Handled.{Handled}
use Rattle.kd_explain.specs.Account.{IsAccount}
use Rattle.kd_loops.specs.Text.{line_of}
use Rattle.kd_loops.specs.declared.fault.ServeFault.{ServeFault}
use Rattle.kd_loops.specs.declared.fault.ServeFault.TheVariants as faults
use Rattle.kd_server.specs.Trial.{Trying, WouldAnswer}

-- a text ends with the line of what a server would answer to an event
pub record EndsInAnswer (t : Trying) (event : Event) (text : List ℕ) : Type 0 where
  pub handled : Handled
  pub answers : WouldAnswer t event handled
  pub front : List ℕ
  pub is : text ≡ front ++ line_of handled

-- a text explains an event: it ends with the line of what a server would answer, and the lines
-- before that are for the same time, configuration and rows
pub record ExplainsEvent (t : Trying) (event : Event) (text : List ℕ) : Type 0 where
  pub ends : EndsInAnswer t event text
  pub says : IsAccount t.config t.rows ends.handled.now event.bytes ends.front

-- why an event at a time is not explained: the time is 2^40 or more, or memory ran out
abbrev pub IsUnsaid : ℕ → ServeFault → Type 0
IsUnsaid moment faults.MomentTooLarge = 2 ^ 40 ≤ moment
IsUnsaid moment faults.Memory = moment < 2 ^ 40
IsUnsaid moment (faults.Store fault) = ⊥
IsUnsaid moment faults.Failed = ⊥
