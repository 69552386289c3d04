-- A history: events handled one after another, each by the server as the one before left it.
use Rattle.std.specs.Prelude.{◌≡◌, List, [], ◌∷◌, ◌++◌, ◌⊎◌, Option, None, Some}
use Rattle.kd_event.specs.declared.event.Event.{Event}
use Rattle.kd_event.specs.declared.event.Handled.{Handled}
use Rattle.kd_loops.specs.declared.fault.ServeFault.{ServeFault}
use Rattle.kd_loops.specs.declared.fault.ServeFault.TheVariants as faults

-- the relation that says what one event gives: the server before it, the event, what was done with
-- it, and the server after it
module _ {H : Type 0} (gives : H → Event → Handled → H → Type 0) where
  -- what was done with each event of a list, from the old server to the new one
  abbrev pub History : H → List Event → List Handled → H → Type 0
  History old [] [] new = new ≡ old
  History old (event ∷ events) (handled ∷ list) new =
      (mid : H) × gives old event handled mid × History mid events list new
  History old [] (handled ∷ list) new = ⊥
  History old (event ∷ events) [] new = ⊥

-- there is not enough memory for the list, and nothing is handled
pub record NoMemory {H : Type 0} (fault : ServeFault) (list : List Handled)
    (old new : H) : Type 0 where
  pub want : fault ≡ faults.Memory
  pub none : list ≡ []
  pub same : new ≡ old

-- the relation that says what a fault leaves: the server before the event, the event, the fault,
-- and the server after it
module _ {H : Type 0} (fails : H → Event → ServeFault → H → Type 0) where
  -- how a run ends: without a fault at the end of the events, or with the fault of the next event
  abbrev pub Halts : Option ServeFault → List Event → List Handled → H → H → Type 0
  Halts None [] list mid new = new ≡ mid
  Halts None (event ∷ events) list mid new = ⊥
  Halts (Some fault) [] list mid new = NoMemory fault list mid new
  Halts (Some fault) (event ∷ events) list mid new =
      fails mid event fault new ⊎ NoMemory fault list mid new

module _ {H : Type 0} (gives : H → Event → Handled → H → Type 0)
    (fails : H → Event → ServeFault → H → Type 0) where
  -- a run: the first events have a history, and it ends after them
  pub record Runs (events : List Event) (list : List Handled) (fault : Option ServeFault)
      (old new : H) : Type 0 where
    pub done : List Event
    pub after : List Event
    pub mid : H
    pub all : events ≡ done ++ after
    pub history : History gives old done list mid
    pub halts : Halts fails fault after list mid new

  -- the result of calls of a server: events were handled one after another, and then either nothing
  -- more happened or one more event had a fault
  pub record Reaches (old new : H) : Type 0 where
    pub events : List Event
    pub list : List Handled
    pub mid : H
    pub history : History gives old events list mid
    pub last : (new ≡ mid) ⊎ ((event : Event) × (fault : ServeFault) × fails mid event fault new)
