-- A history is a function of its events: what is answered, and the rows after it, follow from the
-- configuration, the ports, the rows before it and the events.
use Rattle.std.specs.Prelude.{◌≡◌, List}
use Rattle.kd_config.specs.Configuration.{Configuration}
use Rattle.kd_event.specs.declared.event.Event.{Event}
use Rattle.kd_event.specs.declared.event.Handled.{Handled}
use Rattle.kd_event.specs.declared.ports.Ports.{Ports}
use Rattle.kd_keeps.specs.declared.keeps.Keeps.{Ghosts}
use Rattle.kd_loops.specs.History as past
use Rattle.kd_rows.specs.declared.row.Row.{Row}
use Rattle.kd_server.specs.Server.{ServerState, Steps, StepsTo}

-- an event has one answer, and leaves one table
abbrev pub OneStep : Type 0
OneStep =
    (config : Configuration) (ports : Ports) (rows : List Row) (event : Event)
    (handled other : Handled) (new its : List Row) → StepsTo config ports rows event handled new
    → StepsTo config ports rows event other its → (handled ≡ other) × (new ≡ its)

-- two servers are alike, whatever their stores: they have the same ports, configuration and rows
pub record StandAlike {S T : Type 0} (one : ServerState S) (other : ServerState T) : Type 0 where
  pub ports : one.ports ≡ other.ports
  pub config : one.config ≡ other.config
  pub rows : one.rows ≡ other.rows

-- servers that are alike, over two types of stores, answer the same events alike, and are alike
-- afterwards
abbrev pub OneHistory : {S T : Type 0} → Ghosts S → Ghosts T → Type 0
OneHistory {S} {T} g h =
    (events : List Event) (list others : List Handled) (old new : ServerState S) (its last : ServerState T)
    → StandAlike old its → past.History (Steps g) old events list new
    → past.History (Steps h) its events others last → (list ≡ others) × StandAlike new last
