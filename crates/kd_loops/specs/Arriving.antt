-- Datagrams that arrive at a link, each with the time of the clock after it came.
use Rattle.std.specs.Prelude.{ℕ, ◌^◌, ◌<◌, ◌≤◌, Bool, false, List, [], ◌∷◌, length, take}
use Rattle.hex.specs.Hex.{IsBytes}
use Rattle.kd_event.specs.declared.event.Event.{Event}
use Rattle.kd_loops.specs.declared.happening.Happening.{Happening}
use Rattle.kd_loops.specs.declared.happening.Happening.TheVariants as happens

-- how many bytes of a datagram count: one more than the longest that reads as a message, so that a
-- longer one does not read as a message
abbrev pub datagram_room : ℕ
datagram_room = 4097

-- a whole datagram, and the time of the clock after it came
pub record Arrival : Type 0 where
  pub datagram : List ℕ
  pub moment : ℕ

-- the event of an arrival: its time, and its datagram cut off after 4,097 bytes
abbrev pub event_of : Arrival → Event
event_of a = record { moment = a.moment; bytes = take datagram_room a.datagram }

-- datagrams come, the first of them waited for or not, the others never; after each the clock is
-- read
abbrev pub coming : Bool → List Arrival → List Happening
coming waited [] = []
coming waited (a ∷ more) =
    happens.Came waited a.datagram ∷ happens.Said a.moment ∷ coming false more

-- an event that a line of a record can represent
pub record IsRecordable (event : Event) : Type 0 where
  pub moment : event.moment < 2 ^ 64
  pub bytes : IsBytes event.bytes
  pub room : length event.bytes ≤ datagram_room
