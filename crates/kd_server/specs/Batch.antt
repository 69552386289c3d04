-- Events that a server handles together, with one commit for all of them.
use Rattle.std.specs.Prelude.{◌≡◌, ◌≢◌, ◌++◌, ◌^◌, ◌≤◌, ◌<◌, true, false, List, [], Option, None, Some, is_some}
use Rattle.kd_event.specs.declared.event.Event.{Event}
use Rattle.kd_event.specs.declared.event.Handled.{Handled}
use Rattle.kd_keeps.specs.declared.fault.StoreFault.{StoreFault}
use Rattle.kd_keeps.specs.declared.keeps.Keeps.{Ghosts}
use Rattle.kd_loops.specs.History.{History, Runs}
use Rattle.kd_loops.specs.declared.fault.ServeFault.{ServeFault}
use Rattle.kd_loops.specs.declared.fault.ServeFault.TheVariants as faults
use Rattle.kd_rows.specs.declared.row.Row.{Row}
use Rattle.kd_server.specs.Server.{HasHeader, ServerState, StepsTo, StillHolds, StoreHolds}

-- why an event is not handled, which leaves the rows as they are: its time is 2^40 or more, or
-- memory ran out, which can happen only once its header is read
abbrev pub LeavesOut : List Row → Event → ServeFault → List Row → Type 0
LeavesOut rows event faults.MomentTooLarge new = (2 ^ 40 ≤ event.moment) × (new ≡ rows)
LeavesOut rows event faults.Memory new =
    (event.moment < 2 ^ 40) × HasHeader event.bytes × (new ≡ rows)
LeavesOut rows event (faults.Store fault) new = ⊥
LeavesOut rows event faults.Failed new = ⊥

-- the first of these events have a history that changes the rows
pub record IsChangedBy (steps : List Row → Event → Handled → List Row → Type 0)
    (events : List Event) (rows : List Row) : Type 0 where
  pub early : List Event
  pub later : List Event
  pub all : events ≡ early ++ later
  pub list : List Handled
  pub mid : List Row
  pub history : History steps rows early list mid
  pub changed : mid ≢ rows

module _ {S : Type 0} (g : Ghosts S) where
  -- the store has failed at a commit, with this fault: a crash leaves the old rows or the new ones,
  -- and while the store is open it stands at the old ones
  pub record FailsToKeep (fault : StoreFault) (old new : S) (before rows : List Row) : Type 0 where
    pub failed : g.fault new ≡ Some fault
    pub clean : g.has_clean_disk new → g.has_clean_disk old
    pub left : g.has_clean_disk new → StoreHolds g old before → g.leaves new before rows
    pub still : g.has_clean_disk new → StoreHolds g old before → g.is_open new → g.stands new before

  -- the first events are handled in their order, up to the end or up to the one with the fault, and
  -- the store holds the rows after them
  pub record IsCommitted (old : ServerState S) (events : List Event) (list : List Handled)
      (fault : Option ServeFault) (new : ServerState S) : Type 0 where
    pub worked : is_some (g.fault old.store) ≡ false
    pub ports : new.ports ≡ old.ports
    pub config : new.config ≡ old.config
    pub runs : Runs (StepsTo old.config old.ports) LeavesOut events list fault old.rows new.rows
    pub store : StillHolds g old.store new.store old.rows new.rows

  -- the store has failed with this fault at the commit of events, the first of which change the
  -- rows: none is answered, and the server's rows are those after the events
  pub record IsLost (fault : StoreFault) (old : ServerState S) (events : List Event)
      (list : List Handled) (new : ServerState S) : Type 0 where
    pub worked : is_some (g.fault old.store) ≡ false
    pub ports : new.ports ≡ old.ports
    pub config : new.config ≡ old.config
    pub none : list ≡ []
    pub handled : List Handled
    pub ending : Option ServeFault
    pub runs : Runs (StepsTo old.config old.ports) LeavesOut events handled ending old.rows
        new.rows
    pub changes : IsChangedBy (StepsTo old.config old.ports) events old.rows
    pub store : FailsToKeep fault old.store new.store old.rows new.rows

  -- the result of handling events together, by fault: no fault; the fault of the first event that
  -- is not handled, after those that are; the fault of the commit; or the store had failed earlier
  abbrev pub Batched : ServerState S → List Event → List Handled → Option ServeFault → ServerState S
      → Type 0
  Batched old events list None new = IsCommitted old events list None new
  Batched old events list (Some faults.MomentTooLarge) new =
      IsCommitted old events list (Some faults.MomentTooLarge) new
  Batched old events list (Some faults.Memory) new =
      IsCommitted old events list (Some faults.Memory) new
  Batched old events list (Some (faults.Store fault)) new = IsLost fault old events list new
  Batched old events list (Some faults.Failed) new =
      (is_some (g.fault old.store) ≡ true) × (list ≡ []) × (new ≡ old)
