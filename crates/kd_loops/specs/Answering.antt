-- Helpers of private contracts only: datagrams arrive in buffers, and handled datagrams are
-- answered: each reply is handed over to be sent and its text is written.
use Rattle.std.specs.Prelude.{◌≡◌, ℕ, Bool, true, false, List, [], ◌∷◌, ◌++◌, Option, map, take}
use Rattle.std.specs.List.{All, flat_map}
use Rattle.std.specs.Io.KnownBytes.{Appends}
use Rattle.kd_event.specs.declared.event.Event.{Event}
use Rattle.kd_event.specs.declared.event.Handled.{Handled}
use Rattle.kd_loops.specs.Arriving.{Arrival, IsRecordable, coming, datagram_room, event_of}
use Rattle.kd_loops.specs.Parts.{WritesPart}
use Rattle.kd_loops.specs.Serving.{Answered, packets_of, text_of}
use Rattle.kd_loops.specs.Trace.{Grows}
use Rattle.kd_loops.specs.declared.happening.Happening.{Happening}
use Rattle.kd_loops.specs.declared.happening.Happening.TheVariants as happens

-- a datagram arrives, waited for or not, as this event
pub record ArrivesAt (waited : Bool) (old out : Option (List Happening)) (event : Event) : Type 0 where
  pub datagram : List ℕ
  pub grows : Grows old out (happens.Came waited datagram ∷ happens.Said event.moment ∷ [])
  pub cut : event.bytes ≡ take datagram_room datagram
  pub recordable : IsRecordable event

-- a datagram that has come already arrives, or none has come and nothing happens
abbrev pub IsArrived : Bool → Option (List Happening) → Option (List Happening) → Event → Type 0
IsArrived true old out event = ArrivesAt false old out event
IsArrived false old out event = out ≡ old

-- datagrams arrive as these events, the first of them waited for
pub record Gathers (old out : Option (List Happening)) (events : List Event) : Type 0 where
  pub arrivals : List Arrival
  pub are : map event_of arrivals ≡ events
  pub recordable : All IsRecordable (map event_of arrivals)
  pub grows : Grows old out (coming true arrivals)

module _ (handled : Handled) (trace gone : Option (List Happening)) (old out : Option (List ℕ)) where
  -- the reply was sent or not, and its text is written
  pub record IsTold : Type 0 where
    pub sent : Bool
    pub grows : Grows trace gone (packets_of (record { handled = handled; sent = sent }))
    pub appended : Appends old out (text_of (record { handled = handled; sent = sent }))

  -- the reply was sent or not, and a prefix of its text is written
  pub record IsCut : Type 0 where
    pub sent : Bool
    pub grows : Grows trace gone (packets_of (record { handled = handled; sent = sent }))
    pub cut : WritesPart old out (text_of (record { handled = handled; sent = sent }))

module _ (list : List Handled) (trace gone : Option (List Happening)) (old out : Option (List ℕ)) where
  -- all replies were sent or not, in order, and their texts are written
  pub record AreTold : Type 0 where
    pub told : List Answered
    pub are : map (λ a. a.handled) told ≡ list
    pub grows : Grows trace gone (flat_map packets_of told)
    pub appended : Appends old out (flat_map text_of told)

  -- the texts of some of the first replies are written, and a prefix of the text of the next one
  pub record AreCut : Type 0 where
    pub told : List Answered
    pub last : Answered
    pub untold : List Handled
    pub are : list ≡ map (λ a. a.handled) told ++ last.handled ∷ untold
    pub part : List ℕ
    pub more : List ℕ
    pub cut : text_of last ≡ part ++ more
    pub grows : Grows trace gone (flat_map packets_of (told ++ last ∷ []))
    pub appended : Appends old out (flat_map text_of told ++ part)
