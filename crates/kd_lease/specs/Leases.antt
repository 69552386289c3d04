-- The leases of a server: its configuration and its table of leases.
use Rattle.kd_config.specs.Configuration.{Configuration}
use Rattle.kd_rows.specs.Table.{Table}

-- a configuration and a table of leases
pub record Leased : Type 0 where
  pub config : Configuration
  pub table : Table
