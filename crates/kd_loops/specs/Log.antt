-- The log of a link in memory: which events of an input came, and what the clock gave.
use Rattle.std.specs.Prelude.{◌≡◌, ℕ, List, [], ◌∷◌, ◌++◌, Option, None, map, take}
use Rattle.std.specs.List.{flat_map}
use Rattle.kd_event.specs.declared.event.Event.{Event}
use Rattle.kd_event.specs.declared.event.Handled.{Handled}
use Rattle.kd_loops.specs.Arriving.{datagram_room}
use Rattle.kd_loops.specs.Serving.{Batch, Follow, events_in}
use Rattle.kd_loops.specs.declared.clocks.Clocks.{Clocks}
use Rattle.kd_loops.specs.declared.fault.ServeFault.{ServeFault}
use Rattle.kd_loops.specs.declared.happening.Happening.{Happening}
use Rattle.kd_loops.specs.declared.happening.Happening.TheVariants as happens

-- the time of the last of some events, or an earlier time if there are none
abbrev pub last_moment : ℕ → List Event → ℕ
last_moment moment [] = moment
last_moment moment (event ∷ events) = last_moment event.moment events

-- a log is of events: their datagrams came, whole and in this order, and each reading of the clock
-- is the time of the event that came last, or an earlier time before the first event
abbrev pub IsLogOf : ℕ → List Happening → List Event → Type 0
IsLogOf moment [] [] = Unit {0}
IsLogOf moment [] (event ∷ events) = ⊥
IsLogOf moment (happens.Came waited datagram ∷ log) [] = ⊥
IsLogOf moment (happens.Came waited datagram ∷ log) (event ∷ events) =
    (datagram ≡ event.bytes) × IsLogOf event.moment log events
IsLogOf moment (happens.Said said ∷ log) events = (said ≡ moment) × IsLogOf moment log events
IsLogOf moment (happens.Passed steady ∷ log) events = IsLogOf moment log events
IsLogOf moment (happens.Went packet ∷ log) events = IsLogOf moment log events

-- some of the first events of an input came, and this is their log
pub record HasCome (input : List Event) (log : List Happening) : Type 0 where
  pub first : List Event
  pub rest : List Event
  pub all : input ≡ first ++ rest
  pub is : IsLogOf 0 log first

-- an event with its datagram cut off after 4,097 bytes
abbrev pub cut_event : Event → Event
cut_event event = record { moment = event.moment; bytes = take datagram_room event.bytes }

-- all events of an input are served in consecutive batches, without a limit on the clock
pub record ServesInput {H : Type 0} (latest : H → ℕ)
    (batches : H → List Event → List Handled → Option ServeFault → H → Type 0)
    (input : List Event) (server new : H) : Type 0 where
  pub list : List Batch
  pub events : flat_map events_in list ≡ map cut_event input
  pub first : Clocks
  pub last : Clocks
  pub follow : Follow None latest batches (record { server = server; clocks = first }) list
      (record { server = new; clocks = last })
