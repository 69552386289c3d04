-- What a check of a start finds, and the number of the fault with which serving would end there, or
-- none.
use Rattle.std.specs.Prelude.{◌≡◌, ◌⊎◌, ℕ, Bool, true, false, List, [], ◌∷◌, Option, Some, None, Result, Ok, Err, if◌then◌else◌, length, option_map, string_bytes}
use Rattle.std.specs.Result.{result_err}
use Rattle.kd_trouble.specs.declared.troubles.StoreTrouble.{StoreTrouble}
use Rattle.kd_trouble.specs.declared.troubles.StoreTrouble.TheVariants as troubles
use Rattle.kd_trouble.specs.declared.troubles.SocketTrouble.{SocketTrouble}
use Rattle.kd_config.specs.Configuration.{Configuration}
use Rattle.kd_io.specs.Faults.{look_fault_number}
use Rattle.kd_trouble.specs.Faults.{start_fault_number}
use Rattle.kd_io.specs.declared.look.LookFault.{LookFault}
use Rattle.kd_io.specs.declared.look.LookFault.TheVariants as looks
use Rattle.kd_trouble.specs.declared.fault.StartFault.{StartFault}
use Rattle.kd_program.specs.Report.{IsCheckReport, IsTestReport}
use Rattle.kd_program.specs.Streams.{At, ShowsOrBreaks, Starves}
use Rattle.kd_commands.specs.declared.orders.Place.{Place}
use Rattle.kd_program.specs.declared.checking.StoreFinding.{StoreFinding}
use Rattle.kd_program.specs.declared.checking.StoreFinding.TheVariants as findings
use Rattle.kd_program.specs.declared.host.Host.{Ghosts as Hosts}
use Rattle.kd_commands.specs.declared.orders.Files.{Files}
use Rattle.kd_loops.specs.Ahead.{is_behind}
use Rattle.kd_rows.specs.Table.{latest_of}
use Rattle.kd_rows.specs.declared.row.Row.{Row}
use Rattle.kd_answers.specs.Status.{status_of}

-- the exit status of a check: that of the first fault that was found
abbrev pub check_status : List (Option ℕ) → ℕ
check_status [] = 0
check_status (None ∷ more) = check_status more
check_status (Some number ∷ more) = status_of number

-- the number of the fault of a store that cannot be opened
abbrev pub trouble_number : StoreTrouble → ℕ
trouble_number troubles.Schema = 80
trouble_number troubles.Locked = 81
trouble_number troubles.Damaged = 81
trouble_number troubles.Denied = 81
trouble_number troubles.NoFolder = 81
trouble_number troubles.Other = 81

-- what is found out about a configuration
abbrev pub config_finding : Result Configuration StartFault → Option ℕ
config_finding result = option_map (λ fault. start_fault_number fault) (result_err result)

-- what is found out about a socket
abbrev pub socket_finding : Result Bool SocketTrouble → Option ℕ
socket_finding answer = option_map (λ trouble. 94) (result_err answer)

-- what is found out about rows that were read, at the time of the clock: their number, the latest
-- change, and whether the clock is behind that by more than the limit
abbrev pub rows_finding : Option ℕ → List Row → ℕ → StoreFinding
rows_finding limit rows moment =
    findings.Open (record {
      count = length rows;
      latest = latest_of rows;
      moment = moment;
      is_behind = is_behind limit (latest_of rows) moment;
    })

-- what is found out about a database whose rows are not read: one without a table of leases has no
-- fault, since a server makes the table
abbrev pub look_finding : LookFault → Option ℕ
look_finding looks.NoTable = None
look_finding fault = Some (look_fault_number fault)

-- the number of the fault found in a store, if any
abbrev pub finding_number : StoreFinding → Option ℕ
finding_number findings.Unasked = None
finding_number findings.New = None
finding_number (findings.Trouble trouble) = Some (trouble_number trouble)
finding_number (findings.Unread fault) = look_finding fault
finding_number findings.Memory = Some 91
finding_number (findings.Open seen) = if seen.is_behind then Some 101 else None

-- over a host
module _ {H N U L R : Type 0} (h : Hosts H N U L R) where
  -- the rows of a database are read, and the clock is asked, or memory runs out for them; or they
  -- cannot be read
  abbrev pub FindsRows : List ℕ → Option ℕ → H → H → StoreFinding → Type 0
  FindsRows path limit before after found =
      ((rows : List Row) × (moment : ℕ) × h.copies before path (Ok rows) after
      × h.tells_time after moment × (found ≡ rows_finding limit rows moment))
      ⊎ (((rows : List Row) × h.copies before path (Ok rows) after × (found ≡ findings.Memory))
      ⊎ ((fault : LookFault) × h.copies before path (Err fault) after
      × (found ≡ findings.Unread fault)))

  -- a database was tried: it has some trouble, or does not exist, or its rows are read
  abbrev pub FindsDatabase : List ℕ → Option ℕ → Result Bool StoreTrouble → H → H → StoreFinding → Type 0
  FindsDatabase path limit (Err trouble) before after found =
      (after ≡ before) × (found ≡ findings.Trouble trouble)
  FindsDatabase path limit (Ok false) before after found =
      (after ≡ before) × (found ≡ findings.New)
  FindsDatabase path limit (Ok true) before after found = FindsRows path limit before after found

  -- the store at a path is tried, if there is a path
  abbrev pub FindsStore : Option (List ℕ) → Option ℕ → H → H → StoreFinding → Type 0
  FindsStore None limit before after found = (after ≡ before) × (found ≡ findings.Unasked)
  FindsStore (Some path) limit before after found =
      (answer : Result Bool StoreTrouble) × h.tries before path answer
      × FindsDatabase path limit answer before after found

  -- the configuration of these files is read, a report of it is shown, and the exit status is that of
  -- its fault; memory may run out for the report
  pub record TriesConfig (files : Files) (before after : At H) (status : ℕ) : Type 0 where
    pub config : Result Configuration StartFault
    pub given : h.configures before.host files config after.host
    pub shown : ((report : List ℕ) × IsTestReport h after.host files config report
        × ShowsOrBreaks report (check_status (config_finding config ∷ [])) status
        before.streams.output after.streams.output before.streams.faults after.streams.faults)
        ⊎ Starves status before.streams after.streams

  -- the steps of a start are tried in order, a report of them is shown, and the exit status is that
  -- of the first fault; memory may run out for the report
  pub record ChecksStart (files : Files) (place : Place) (before after : At H)
      (status : ℕ) : Type 0 where
    pub config : Result Configuration StartFault
    pub asked : H
    pub given : h.configures before.host files config asked
    pub store : StoreFinding
    pub store_found : FindsStore (option_map string_bytes files.store) place.max_ahead asked
        after.host store
    pub socket : Result Bool SocketTrouble
    pub socket_found : h.reaches after.host place.bind place.port socket
    pub shown : ((report : List ℕ)
        × IsCheckReport h after.host files config store place socket report
        × ShowsOrBreaks report
        (check_status (config_finding config ∷ finding_number store ∷ socket_finding socket ∷ []))
        status before.streams.output after.streams.output before.streams.faults
        after.streams.faults)
        ⊎ Starves status before.streams after.streams
