-- A trial: what a server would do with events over rows that no store keeps.
use Rattle.std.specs.Prelude.{◌≡◌, List}
use Rattle.kd_config.specs.Configuration.{Configuration}
use Rattle.kd_event.specs.declared.event.Event.{Event}
use Rattle.kd_event.specs.declared.event.Handled.{Handled}
use Rattle.kd_event.specs.declared.ports.Ports.{Ports}
use Rattle.kd_rows.specs.declared.row.Row.{Row}
use Rattle.kd_server.specs.Server.{StepsTo}
use Rattle.kd_server.specs.declared.terms.Terms.{Terms}

-- what contracts see of a trial: its ports, its configuration and its rows
pub record Trying : Type 0 where
  pub ports : Ports
  pub config : Configuration
  pub rows : List Row

-- a trial on these terms, with these rows
abbrev pub trying : Terms → List Row → Trying
trying terms rows =
    record { ports = terms.ports; config = terms.config.now; rows = rows }

-- the same trial with other rows
abbrev pub at_rows : Trying → List Row → Trying
at_rows t rows = record { ports = t.ports; config = t.config; rows = rows }

-- what a server with the rows of a trial would answer to an event
abbrev pub WouldAnswer : Trying → Event → Handled → Type 0
WouldAnswer t event handled =
    (new : List Row) × StepsTo t.config t.ports t.rows event handled new

-- an event of a trial: the history's step, from rows to rows
pub record TriesStep (old : Trying) (event : Event) (handled : Handled)
    (new : Trying) : Type 0 where
  pub step : StepsTo old.config old.ports old.rows event handled new.rows
  pub same : new ≡ at_rows old new.rows
