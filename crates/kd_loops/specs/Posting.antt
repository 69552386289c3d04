-- Helpers of a private type only: a link in memory has an input, and its first events have come.
use Rattle.std.specs.Prelude.{◌≡◌, ℕ, List, [], ◌∷◌, Option, None, Some, refl, take}
use Rattle.std.specs.Coded.{Coded, Coded-set, Unit-prop, code_by, coded_list, coded_ℕ, coded×, ×_prop}
use Rattle.kd_event.specs.declared.event.Event.{Event}
use Rattle.kd_loops.specs.Log.{IsLogOf, last_moment}
use Rattle.kd_loops.specs.declared.happening.Happening.{Happening}
use Rattle.kd_loops.specs.declared.happening.Happening.TheVariants as happens

-- this is the log of the events, if it is known
abbrev pub IsKnownLogOf : Option (List Happening) → List Event → Type 0
IsKnownLogOf None events = Unit {0}
IsKnownLogOf (Some log) events = IsLogOf 0 log events

-- the input is the given one, the first `next` of its events came, the time is that of the last of
-- them, and this is their log
abbrev pub IsPosted : List Event → List Event → ℕ → ℕ → Option (List Happening) → Type 0
IsPosted given input next moment log =
    (input ≡ given) × ((moment ≡ last_moment 0 (take next input)) × IsKnownLogOf log (take next input))

-- an event as its moment and its bytes
abbrev event_code : Coded Event
event_code =
    code_by (ℕ × List ℕ) (coded× coded_ℕ (coded_list coded_ℕ)) (λ e. (e.moment, e.bytes))
    (λ p. record { moment = p.0; bytes = p.1 }) (λ _. refl)

-- a log is of events in only one way
IsLogOf-prop : (moment : ℕ) (log : List Happening) (events : List Event) → IsProp (IsLogOf moment log events)
IsLogOf-prop moment [] [] = Unit-prop
IsLogOf-prop moment [] (event ∷ events) = λ x y. absurd x
IsLogOf-prop moment (happens.Came waited datagram ∷ log) [] = λ x y. absurd x
IsLogOf-prop moment (happens.Came waited datagram ∷ log) (event ∷ events) =
    ×_prop (Coded-set (coded_list coded_ℕ) datagram event.bytes) (IsLogOf-prop event.moment log events)
IsLogOf-prop moment (happens.Said said ∷ log) events =
    ×_prop (Coded-set coded_ℕ said moment) (IsLogOf-prop moment log events)
IsLogOf-prop moment (happens.Passed steady ∷ log) events = IsLogOf-prop moment log events
IsLogOf-prop moment (happens.Went packet ∷ log) events = IsLogOf-prop moment log events

-- the same if the log may be unknown
IsKnownLogOf-prop : (log : Option (List Happening)) (events : List Event) → IsProp (IsKnownLogOf log events)
IsKnownLogOf-prop None events = Unit-prop
IsKnownLogOf-prop (Some log) events = IsLogOf-prop 0 log events

-- there is only one proof of the state of a post
pub IsPosted-prop : (given input : List Event) (next moment : ℕ) (log : Option (List Happening)) → IsProp (IsPosted given input next moment log)
IsPosted-prop given input next moment log =
    ×_prop (Coded-set (coded_list event_code) input given)
    (×_prop (Coded-set coded_ℕ moment (last_moment 0 (take next input))) (IsKnownLogOf-prop log (take next input)))
