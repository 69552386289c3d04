-- What is printed of a table of leases at a time: its leases, how full the pools are, or what
-- answer a datagram gets, and why.
use Rattle.std.specs.Prelude.{ℕ, ◌⊎◌, Bool, List, max, string_bytes}
use Rattle.std.specs.List.{flat_map}
use Rattle.kd_commands.specs.declared.orders.View.{View}
use Rattle.kd_commands.specs.declared.orders.View.TheVariants as views
use Rattle.kd_config.specs.Configuration.{Configuration}
use Rattle.kd_listing.specs.Leases.{lease_line, leases_of_rows}
use Rattle.kd_pools.specs.Printed.{lines_text, metrics_text}
use Rattle.kd_pools.specs.Uses.{all_uses, subnet_uses}
use Rattle.kd_program.specs.Explaining.{ExplainsWord}
use Rattle.kd_program.specs.Streams.{ShowsOrBreaks, Streams, Tells}
use Rattle.kd_loops.specs.Faults.{serve_fault_number}
use Rattle.kd_loops.specs.declared.fault.ServeFault.{ServeFault}
use Rattle.kd_rows.specs.Table.{latest_of}
use Rattle.kd_rows.specs.declared.row.Row.{Row}
use Rattle.kd_server.specs.Looks.{IsNoList}

-- a text about rows at a time is shown, by whether their store has failed, or it is reported why
-- there is none
abbrev pub ShowsText : List ℕ → ℕ → Bool → ℕ → Streams → Streams → Type 0
ShowsText text at failed status old new =
    ShowsOrBreaks text 0 status old.output new.output old.faults new.faults
    ⊎ ((fault : ServeFault) × IsNoList failed at fault × Tells (serve_fault_number fault) status old
    new)

-- a view of rows under a configuration is shown at a time; for the pools, a time before the latest
-- change counts as the time of that change
abbrev pub ShowsView : View → ℕ → Bool → Configuration → List Row → ℕ → Streams → Streams → Type 0
ShowsView views.Leases at failed config rows status old new =
    ShowsText (flat_map lease_line (leases_of_rows at rows)) at failed status old new
ShowsView views.Pools at failed config rows status old new =
    ShowsText (lines_text (all_uses config rows (max at (latest_of rows)))) at failed status old
    new
ShowsView views.Metrics at failed config rows status old new =
    ShowsText (metrics_text (subnet_uses config rows (max at (latest_of rows)))) at failed status
    old new
ShowsView (views.Why word) at failed config rows status old new =
    ExplainsWord (string_bytes word) failed config rows at status old new
