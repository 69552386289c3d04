-- What is true of every table, printed and read back, and of every log: its lines are read.
use Rattle.std.specs.Prelude.{ℕ, List, IsTrue, ◌⊎◌}
use Rattle.std.specs.List.{All, AllByRecursion, AllZip, flat_map}
use Rattle.kd_event.specs.declared.event.Handled.{Handled}
use Rattle.kd_listing.specs.Leases.{lease_line, leases_of_rows}
use Rattle.kd_loops.specs.Lines.{lines_of}
use Rattle.kd_loops.specs.Serving.{Answered, text_of}
use Rattle.kd_loops.specs.Text.{line_of}
use Rattle.kd_rows.specs.Table.{Rise}
use Rattle.kd_rows.specs.declared.row.Row.{Row}
use Rattle.kd_log.specs.Import.{IsStorable, IsTable}
use Rattle.kd_log.specs.Logged.{IsHandledLine, IsWritable, is_remark}

-- what is printed of the leases of a table, at any time, describes that table, if its rows are in
-- ascending order of address and can be stored
abbrev pub PrintedIsRead : Type 0
PrintedIsRead =
    (moment : ℕ) (table : List Row) → Rise table → All IsStorable table
    → IsTable (flat_map lease_line (leases_of_rows moment table)) table

-- what a replay writes for handled events, split into lines, is exactly the line of each
abbrev pub LogsAreRead : Type 0
LogsAreRead =
    (list : List Handled) → All IsWritable list
    → AllZip IsHandledLine (lines_of (flat_map line_of list)) list

-- the line of a handled event, or a remark
abbrev pub IsLogLine : List ℕ → Type 0
IsLogLine line = ((handled : Handled) × IsHandledLine line handled) ⊎ IsTrue (is_remark line)

-- what serving writes for the datagrams that it answered, split into lines, is lines of events and
-- remarks
abbrev pub ServedLogsAreRead : Type 0
ServedLogsAreRead =
    (list : List Answered) → All (λ a. IsWritable a.handled) list
    → AllByRecursion IsLogLine (lines_of (flat_map text_of list))
