-- The state of a server with leases over any store that keeps them, and what the server does with
-- an event: it answers and changes its rows as the history says, and the store keeps those rows.
use Rattle.std.specs.Prelude.{◌≡◌, ◌≢◌, ◌⊎◌, ℕ, ◌^◌, ◌≤◌, ◌<◌, true, false, List, Ok, Option, None, Some, is_some}
use Rattle.kd_config.specs.Configuration.{Configuration}
use Rattle.kd_config.specs.Sound.{IsSound}
use Rattle.kd_event.specs.declared.event.Event.{Event}
use Rattle.kd_event.specs.declared.event.Handled.{Handled}
use Rattle.kd_event.specs.declared.ports.Ports.{Ports}
use Rattle.kd_keeps.specs.declared.fault.StoreFault.{StoreFault}
use Rattle.kd_keeps.specs.declared.keeps.Keeps.{Ghosts}
use Rattle.kd_lease.specs.Change.{Changes}
use Rattle.kd_loops.specs.declared.fault.ServeFault.{ServeFault}
use Rattle.kd_loops.specs.declared.fault.ServeFault.TheVariants as faults
use Rattle.kd_rows.specs.Table.{latest_of}
use Rattle.kd_rows.specs.declared.row.Row.{Row}
use Rattle.kd_server.specs.Step.{IsStep}
use Rattle.kd_wire.specs.Header.{header_read}
use Rattle.kd_wire.specs.declared.header.Header.{Header}

-- what contracts see of a server: its ports, its configuration, its rows and its store
pub record ServerState (S : Type 0) : Type 0 where
  pub ports : Ports
  pub config : Configuration
  pub rows : List Row
  pub store : S

-- the time of the latest change of a server's rows
abbrev pub latest_in : {S : Type 0} → ServerState S → ℕ
latest_in server = latest_of server.rows

-- one event of the history, from rows to rows
abbrev pub StepsTo : Configuration → Ports → List Row → Event → Handled → List Row → Type 0
StepsTo config ports rows event handled new =
    IsStep latest_of (Changes config) ports rows event handled new

-- a datagram has a header that can be read
abbrev pub HasHeader : List ℕ → Type 0
HasHeader bytes = (header : Header) × (header_read bytes ≡ Ok header)

-- why a server could not be opened, by the fault with which the store has failed: memory ran out,
-- or the fault is the store's
abbrev pub IsOpenFault : ServeFault → Option StoreFault → Type 0
IsOpenFault faults.MomentTooLarge failed = ⊥
IsOpenFault faults.Memory failed = failed ≡ None
IsOpenFault (faults.Store fault) failed = failed ≡ Some fault
IsOpenFault faults.Failed failed = ⊥

module _ {S : Type 0} (g : Ghosts S) where
  -- a store stands at these rows, and a crash leaves them
  pub record StoreHolds (store : S) (rows : List Row) : Type 0 where
    pub stands : g.stands store rows
    pub leaves : g.leaves store rows rows

  -- a store that works: if its disk is clean now it was clean before, and if it held the old rows
  -- it holds the new ones
  pub record StillHolds (old new : S) (before rows : List Row) : Type 0 where
    pub works : is_some (g.fault new) ≡ false
    pub clean : g.has_clean_disk new → g.has_clean_disk old
    pub holds : g.has_clean_disk new → StoreHolds old before → StoreHolds new rows

  -- a store that has failed at a change, with this fault: a crash leaves the old rows or the new
  -- ones, and while the store is open it stands at the old ones
  pub record Loses (fault : StoreFault) (old new : S) (before rows : List Row) : Type 0 where
    pub failed : g.fault new ≡ Some fault
    pub clean : g.has_clean_disk new → g.has_clean_disk old
    pub changed : rows ≢ before
    pub left : g.has_clean_disk new → StoreHolds old before → g.leaves new before rows
    pub still : g.has_clean_disk new → StoreHolds old before → g.is_open new → g.stands new before

  -- a server has the same ports, configuration and rows
  pub record IsSameBut (old new : ServerState S) : Type 0 where
    pub ports : new.ports ≡ old.ports
    pub config : new.config ≡ old.config
    pub rows : new.rows ≡ old.rows

  -- a step of the server: the history's step, from rows to rows, and the store keeps the new rows
  pub record Steps (old : ServerState S) (event : Event) (handled : Handled)
      (new : ServerState S) : Type 0 where
    pub worked : is_some (g.fault old.store) ≡ false
    pub ports : new.ports ≡ old.ports
    pub config : new.config ≡ old.config
    pub step : StepsTo old.config old.ports old.rows event handled new.rows
    pub store : StillHolds old.store new.store old.rows new.rows

  -- the store has failed with this fault at the change of an event: there is no answer, and the
  -- server keeps the old rows
  pub record IsStopped (fault : StoreFault) (old : ServerState S) (event : Event)
      (new : ServerState S) : Type 0 where
    pub worked : is_some (g.fault old.store) ≡ false
    pub same : IsSameBut old new
    pub handled : Handled
    pub after : List Row
    pub step : StepsTo old.config old.ports old.rows event handled after
    pub store : Loses fault old.store new.store old.rows after

  -- why an event is not handled, and what then holds: a time of 2^40 or more, a store that failed
  -- earlier, and out of memory (possible only once the header is read) change nothing; otherwise
  -- the store has failed at this event
  abbrev pub Refuses : ServerState S → Event → ServeFault → ServerState S → Type 0
  Refuses old event faults.MomentTooLarge new =
      (is_some (g.fault old.store) ≡ false) × (2 ^ 40 ≤ event.moment) × (new ≡ old)
  Refuses old event faults.Memory new =
      (is_some (g.fault old.store) ≡ false) × (event.moment < 2 ^ 40) × HasHeader event.bytes
      × (new ≡ old)
  Refuses old event (faults.Store fault) new = IsStopped fault old event new
  Refuses old event faults.Failed new = (is_some (g.fault old.store) ≡ true) × (new ≡ old)

  -- a server that was opened over a store: its configuration obeys all limits, and if the store
  -- stood at a table, the server's rows are that table, and the store holds them
  pub record Opens (ports : Ports) (config : Configuration) (store : S)
      (server : ServerState S) : Type 0 where
    pub sound : IsSound config
    pub ports_are : server.ports ≡ ports
    pub config_is : server.config ≡ config
    pub works : is_some (g.fault server.store) ≡ false
    pub clean : g.has_clean_disk server.store → g.has_clean_disk store
    pub holds : g.has_clean_disk server.store → (table : List Row) → g.stands store table
        → (server.rows ≡ table) × StoreHolds server.store table

  -- no server was opened: the configuration and the store are returned, a crash leaves the table
  -- that the store stood at, and the store still stands there if it is open or if memory ran out
  pub record IsUnopened (config : Configuration) (store : S) (fault : ServeFault)
      (same : Configuration) (back : S) : Type 0 where
    pub config_is : same ≡ config
    pub why : IsOpenFault fault (g.fault back)
    pub clean : g.has_clean_disk back → g.has_clean_disk store
    pub left : g.has_clean_disk back → (table : List Row) → g.stands store table
        → g.leaves back table table
    pub still : g.has_clean_disk back → (table : List Row) → g.stands store table
        → (fault ≡ faults.Memory) ⊎ g.is_open back → g.stands back table
