-- What openings of a server over files amount to, whatever happened between them: one life, one
-- history, in which no two replies overlap.
use Rattle.std.specs.Prelude.{◌≡◌, ◌⊎◌, ℕ, List, [], ◌∷◌, ◌++◌, None, Some}
use Rattle.sqlite_disk.specs.declared.Disk.{Ghosts as Disks}
use Rattle.sqlite_store.specs.declared.store.FileStore.{FileStore}
use Rattle.sqlite_trees.specs.Tree.{Trees}
use Rattle.sqlite_wal.specs.Recovery.{Image}
use Rattle.sqlite.specs.Files.{HoldsDatabase}
use Rattle.kd_config.specs.Configuration.{Configuration}
use Rattle.kd_database.specs.Stops.{IsCrashOf}
use Rattle.kd_database.specs.Stores.{IsStoreIn, StandsAsHeld, StandsNew}
use Rattle.kd_event.specs.declared.ports.Ports.{Ports}
use Rattle.kd_host.specs.OnFiles.{Left, ServesFiles}
use Rattle.kd_keeps.specs.declared.keeps.Keeps.{Ghosts}
use Rattle.kd_program.specs.Running.{ports_asked}
use Rattle.kd_program.specs.Streams.{Streams}
use Rattle.kd_program.specs.declared.host.Host.{Ghosts as Hosts}
use Rattle.kd_commands.specs.declared.orders.Files.{Files}
use Rattle.kd_commands.specs.declared.orders.Work.{Work}
use Rattle.kd_loops.specs.declared.ends.Sink.{Ghosts as Sinks}
use Rattle.kd_loops.specs.declared.link.Link.{Ghosts as Links}
use Rattle.kd_rows.specs.declared.row.Row.{Row}
use Rattle.kd_laws.specs.Openings.{AreCallsOf, CommandsAreOpenings}
use Rattle.kd_laws.specs.Lives.{Call, IsDone, Life, LifeTo, Opening, OpeningsAreHistories, OpeningsEnd, WasHistory}
use Rattle.kd_laws.specs.Sent.{NeverOverlap}
use Rattle.kd_store.specs.Kept.{Kept}
use Rattle.kd_store.specs.Stands.{Holds}

-- files hold a table of leases: that of the database in them, or the empty one if the database has
-- no bytes
abbrev pub HoldsTable : Image → List Row → Type 0
HoldsTable image table =
    ((db : Trees) × HoldsDatabase image db × Holds db table) ⊎ ((image.db ≡ []) × (table ≡ []))

-- an opening with a configuration, at rows, with ports and calls
abbrev pub opening : Configuration → List Row → Ports → List Call → Opening
opening config rows ports calls =
    record { config = config; rows = rows; ports = ports; calls = calls }

-- what is known of the openings of servers over stores of two types
pub record Openings {S T : Type 0} (k : Ghosts S) (m : Ghosts T) : Type 0 where
  pub histories : OpeningsAreHistories k
  pub ends : OpeningsEnd k
  pub later : OpeningsAreHistories m
  pub later_ends : OpeningsEnd m

-- the same, and what a command of a host does over the first store
pub record Commands {H N S U L R T : Type 0} (h : Hosts H N U L R) (l : Links L) (r : Sinks R) (k : Ghosts S) (m : Ghosts T) : Type 0 where
  pub commands : CommandsAreOpenings h l r k
  pub openings : Openings k m

-- over stores in files of two types
module _ {D E : Type 0} {d : Disks D} {e : Disks E} (k : Ghosts (Kept (FileStore D d)))
    (m : Ghosts (Kept (FileStore E e))) where
  -- a server was opened over files at these rows, and another, with its own configuration, on what
  -- a crash left of them: the second stands at some rows, and the two openings are one life
  abbrev pub IsOneLife : Type 0
  IsOneLife =
      (config : Configuration) (rows : List Row) (ports : Ports) (calls : List Call)
      (store left : Kept (FileStore D d)) → k.stands store rows
      → IsDone k config ports calls store left → k.has_clean_disk left
      → (image : Image) → IsCrashOf left.conn image
      → (config' : Configuration) (ports' : Ports) (calls' : List Call)
      (again last : Kept (FileStore E e)) → IsStoreIn image again
      → IsDone m config' ports' calls' again last → m.has_clean_disk last
      → (found : List Row) × m.stands again found
      × Life (opening config rows ports calls ∷ opening config' found ports' calls' ∷ [])

  -- a store in files that are what a crash left of another stands at rows to which the history of
  -- an opening over the other leads
  abbrev pub LeadsOn : Configuration → List Row → Ports → List Call → Kept (FileStore D d) → Type 0
  LeadsOn config rows ports calls left =
      (image : Image) → IsCrashOf left.conn image → (again : Kept (FileStore E e))
      → IsStoreIn image again → m.has_clean_disk again
      → (found : List Row) × m.stands again found
      × WasHistory (opening config rows ports calls) (Some found)

  -- a command over files, with a disk that was clean to the end: if the files held a table, what
  -- was done is a history from it, whose calls are those of the command, and leads to the rows of a
  -- server that is opened on what a crash then leaves of the files
  abbrev pub RunsAreHistories : {H U L R : Type 0} → Hosts H (Kept (FileStore D d)) U L R
      → Links L → Sinks R → Type 0
  RunsAreHistories {H} {U} {L} {R} h l r =
      (image : Image) (files : Files) (work : Work) (old : Streams)
      (left : Left (FileStore D d)) (status : ℕ)
      → (s : ServesFiles d h k l r image files work old left status)
      → k.has_clean_disk s.back → (table : List Row) → HoldsTable image table
      → (calls : List Call)
      × WasHistory (opening s.config table (ports_asked work) calls) None
      × LeadsOn s.config table (ports_asked work) calls s.back
      × AreCallsOf h l r k work s.config
      (record { held = s.store; at = record { host = s.before; streams = old } })
      (record { held = s.back; at = record { host = s.after; streams = left.streams } }) status
      calls

  -- whatever holds a table after a crash left of the files of a store what it may, these openings
  -- lead to that table
  abbrev pub LeadTo : List Opening → Kept (FileStore D d) → Type 0
  LeadTo life left =
      (image : Image) → IsCrashOf left.conn image → (again : Kept (FileStore E e))
      → IsStoreIn image again → StandsAsHeld image again → StandsNew image again
      → m.has_clean_disk again → (held : List Row) → HoldsTable image held → LifeTo life held

  -- a command over files, after earlier openings that led to the table that the files held, with a
  -- disk that was clean to the end. Its calls are those of the datagrams that came or of the lines
  -- that were read; no two replies of all these openings overlap; and they lead to the table that
  -- the files then hold, whatever a crash leaves of them
  abbrev pub RunsNeverOverlap : {H U L R : Type 0} → Hosts H (Kept (FileStore D d)) U L R
      → Links L → Sinks R → Type 0
  RunsNeverOverlap {H} {U} {L} {R} h l r =
      (earlier : List Opening) (image : Image) (files : Files) (work : Work) (old : Streams)
      (left : Left (FileStore D d)) (status : ℕ)
      → (s : ServesFiles d h k l r image files work old left status)
      → k.has_clean_disk s.back → (table : List Row) → HoldsTable image table
      → LifeTo earlier table
      → (calls : List Call)
      × AreCallsOf h l r k work s.config
      (record { held = s.store; at = record { host = s.before; streams = old } })
      (record { held = s.back; at = record { host = s.after; streams = left.streams } }) status
      calls
      × NeverOverlap (earlier ++ opening s.config table (ports_asked work) calls ∷ [])
      × LeadTo (earlier ++ opening s.config table (ports_asked work) calls ∷ []) s.back
