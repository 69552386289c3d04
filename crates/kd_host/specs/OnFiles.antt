-- What the arguments of a command line do over a machine whose files held these bytes.
use Rattle.std.specs.Prelude.{◌≡◌, ◌⊎◌, ℕ, Bool, Err, IfOk, IsErr, List, [], Ok, Option, None, Result, Some, false, is_some, option_map, string_bytes, true}
use Rattle.std.specs.declared.io.Error.{Error}
use Rattle.std.specs.declared.net.udp.UdpSocket.{UdpSocket}
use Rattle.sqlite_disk.specs.declared.Disk.{Ghosts as Disks}
use Rattle.sqlite_store.specs.FileStore.{view}
use Rattle.sqlite_store.specs.declared.store.FileStore.{FileStore}
use Rattle.sqlite_trees.specs.View.{IsClean}
use Rattle.sqlite_wal.specs.Recovery.{Image}
use Rattle.kd_commands.specs.Order.{AsksFor, HasFault, line_fault_number}
use Rattle.kd_commands.specs.declared.fault.LineFault.{LineFault}
use Rattle.kd_commands.specs.declared.orders.Files.{Files}
use Rattle.kd_commands.specs.declared.orders.Form.{Form}
use Rattle.kd_commands.specs.declared.orders.Form.TheVariants.{Kea}
use Rattle.kd_commands.specs.declared.orders.Listening.{Listening}
use Rattle.kd_commands.specs.declared.orders.Order.{Order}
use Rattle.kd_commands.specs.declared.orders.Order.TheVariants as orders
use Rattle.kd_commands.specs.declared.orders.Work.{Work}
use Rattle.kd_commands.specs.declared.orders.Work.TheVariants as works
use Rattle.kd_config.specs.Configuration.{Configuration}
use Rattle.kd_database.specs.Image.{AreRowsIn, LacksTable, bytes_image}
use Rattle.kd_database.specs.Stops.{LiesBelow}
use Rattle.kd_database.specs.Stores.{IsNoStoreIn, IsStoreIn, StandsAsHeld, StandsNew}
use Rattle.kd_trouble.specs.Faults.{start_fault_number}
use Rattle.kd_io.specs.Looking.{IsCopyFault}
use Rattle.kd_reports.specs.KeaWords.{AreKeaRemarks, AreKeaStartWords}
use Rattle.kd_start.specs.Start.{IsNoStartOfFiles, IsNoStartOfKeaFile, IsOfFiles, IsOfKeaFile}
use Rattle.kd_reports.specs.Words.{AreStartWords}
use Rattle.kd_io.specs.declared.link.Sending.{Sending}
use Rattle.kd_io.specs.declared.system.System.{Ghosts as Systems}
use Rattle.kd_io.specs.declared.look.LookFault.{LookFault}
use Rattle.kd_io.specs.declared.look.LookFault.TheVariants as looks
use Rattle.kd_trouble.specs.declared.fault.StartFault.{StartFault}
use Rattle.kd_keeps.specs.Fault.{store_fault_number}
use Rattle.kd_keeps.specs.declared.fault.Cause.TheVariants.{Closed}
use Rattle.kd_keeps.specs.declared.fault.StoreFault.{StoreFault}
use Rattle.kd_keeps.specs.declared.fault.StoreFault.TheVariants.{Sql}
use Rattle.kd_keeps.specs.declared.keeps.Keeps.{Ghosts}
use Rattle.kd_program.specs.Running.{ServesWork, live_view}
use Rattle.kd_program.specs.Streams.{Stream, Streams, Tells, TellsWith}
use Rattle.kd_program.specs.declared.host.Host.{Ghosts as Hosts}
use Rattle.kd_loops.specs.declared.ends.Sink.{Ghosts as Sinks}
use Rattle.kd_loops.specs.declared.link.Link.{Ghosts as Links}
use Rattle.kd_rows.specs.declared.row.Row.{Row}
use Rattle.kd_store.specs.Kept.{Kept}
use Rattle.kd_answers.specs.Status.{status_of}

-- how a socket sends: each reply to its sender, or those to all hosts to another address
abbrev pub sending_of : Listening → Sending
sending_of listening =
    record { mirror = listening.mirror; broadcast_as = listening.broadcast_as }

-- a link is over the socket that was opened for it; if none could be opened, there is no link
abbrev pub IsOver : {E F L : Type 0} → (L → UdpSocket) → Result UdpSocket E → Result L F → Type 0
IsOver below (Ok socket) result = IfOk result (λ link. below link ≡ socket)
IsOver below (Err fault) result = IsErr result

-- a link over a socket that was handed over uses that socket; if what was handed over is not a
-- socket, there is no link; if nothing was, the link is over what a system opens at the address and
-- the port to listen at
abbrev pub IsLinkFor : {S F L : Type 0} → Systems S → (L → UdpSocket) → S → Listening
    → Option (Result UdpSocket F) → Result L F → Type 0
IsLinkFor s below system listening None result =
    (given : Result UdpSocket Error) × s.opens system listening.bind listening.port given
    × IsOver below given result
IsLinkFor s below system listening (Some (Ok socket)) result =
    IfOk result (λ link. below link ≡ socket)
IsLinkFor s below system listening (Some (Err fault)) result = result ≡ Err fault

-- rows are those in the bytes of a database and of its log
abbrev pub AreRowsFound : List Row → Type 0
AreRowsFound rows = (log db : List ℕ) × AreRowsIn (bytes_image log db) rows

-- why there are no rows of a copy: the bytes of a database and of its log hold no table of leases,
-- there is no store in them, or there is no copy
abbrev pub GivesNoRows : {D : Type 0} → Disks D → LookFault → Type 0
GivesNoRows d looks.NoTable = (log db : List ℕ) × LacksTable (bytes_image log db)
GivesNoRows d (looks.Store fault) = (log db : List ℕ) × IsNoStoreIn d (bytes_image log db) fault
GivesNoRows d fault = IsCopyFault fault

-- why the files of a store that held these bytes are not opened: there is no store in them, or they
-- were opened before
abbrev pub GivesNoStore : {D : Type 0} → Disks D → Image → StoreFault → Type 0
GivesNoStore d image fault = IsNoStoreIn d image fault ⊎ (fault ≡ Sql Closed)

-- the configuration of a file in this form, if a file is named, with token files, if a folder is
-- named
abbrev pub IsInForm : Form → Bool → Bool → Configuration → Type 0
IsInForm (Kea server) true has_folder c = IsOfKeaFile server c
IsInForm form has_file has_folder c = IsOfFiles has_file has_folder c

-- why a file in this form gives no configuration
abbrev pub IsNoStartInForm : Form → Bool → Bool → StartFault → Type 0
IsNoStartInForm (Kea server) true has_folder fault = IsNoStartOfKeaFile server fault
IsNoStartInForm form has_file has_folder fault = IsNoStartOfFiles has_file has_folder fault

-- the configuration of these files
abbrev pub IsOfThese : Files → Configuration → Type 0
IsOfThese files c = IsInForm files.form (is_some files.config) (is_some files.token_dir) c

-- why these files give no configuration
abbrev pub IsNoStartOfThese : Files → StartFault → Type 0
IsNoStartOfThese files fault =
    IsNoStartInForm files.form (is_some files.config) (is_some files.token_dir) fault

-- why a file in this form, and a folder, give no configuration, in words
abbrev pub AreWordsInForm : Form → Option (List ℕ) → Option (List ℕ) → StartFault → List ℕ → Type 0
AreWordsInForm (Kea server) (Some path) folder fault words =
    AreKeaStartWords path server fault words
AreWordsInForm form file folder fault words = AreStartWords file folder fault words

-- why these files give no configuration, in words
abbrev pub AreWordsOfThese : Files → StartFault → List ℕ → Type 0
AreWordsOfThese files fault words =
    AreWordsInForm files.form (option_map string_bytes files.config)
    (option_map string_bytes files.token_dir) fault words

-- remarks on the keys of a file in this form: there are none on one of our own form
abbrev pub AreRemarksInForm : Form → Option (List ℕ) → List ℕ → Type 0
AreRemarksInForm (Kea server) (Some path) words = AreKeaRemarks path server words
AreRemarksInForm form file words = words ≡ []

-- remarks on the keys of the file of these files
abbrev pub AreRemarksOfThese : Files → List ℕ → Type 0
AreRemarksOfThese files words =
    AreRemarksInForm files.form (option_map string_bytes files.config) words

-- what a command leaves: its streams, and what is below its store, if it had one
pub record Left (F : Type 0) : Type 0 where
  pub streams : Streams
  pub below : Option F

-- over the disk of the database's files, a host, its store in those files, its sockets and its
-- records
module _ {D H U L R : Type 0} (d : Disks D) (h : Hosts H (Kept (FileStore D d)) U L R)
    (k : Ghosts (Kept (FileStore D d))) (l : Links L) (r : Sinks R) where
  -- a server works over the database that these bytes hold; its configuration is that of a text, if
  -- a file is named. Its store stands at the table of that database, or at the empty one if there
  -- are no bytes, and is released at the end, so that a crash leaves of what is below the store
  -- nothing that it does not leave of the store
  pub record ServesFiles (image : Image) (files : Files) (work : Work) (old : Streams)
      (left : Left (FileStore D d)) (status : ℕ) : Type 0 where
    pub config : Configuration
    pub of_files : IsOfThese files config
    pub store : Kept (FileStore D d)
    pub held : StandsAsHeld image store
    pub new : StandsNew image store
    pub is_in : IsStoreIn image store
    pub back : Kept (FileStore D d)
    pub before : H
    pub after : H
    pub serves : ServesWork h l r k (option_map string_bytes files.store) work config
        (record { held = store; at = record { host = before; streams = old } })
        (record { held = back; at = record { host = after; streams = left.streams } }) status
    pub it : FileStore D d
    pub below_is : left.below ≡ Some it
    pub leaves : IsClean (view it) → LiesBelow back.conn it

  -- these files give no configuration, or there is no store, and this is reported
  abbrev pub TellsRefusal : Image → Files → Streams → Streams → ℕ → Type 0
  TellsRefusal image files old new status =
      ((fault : StartFault)
      × IsNoStartOfThese files fault
      × Tells (start_fault_number fault) status old new)
      ⊎ ((fault : StoreFault) × GivesNoStore d image fault
      × Tells (store_fault_number fault) status old new)

  -- work only reads, and a trial of its path found no database, so that it is done over none
  abbrev pub ReadsNone : Work → List ℕ → Type 0
  ReadsNone works.Replay path = ⊥
  ReadsNone (works.Explain number) path = (host : H) × h.tries host path (Ok false)
  ReadsNone (works.Show view at live) path = (host : H) × h.tries host path (Ok false)
  ReadsNone (works.Serve service) path = ⊥

  -- what arguments do: arguments that are not an order have a fault, which is reported; if they
  -- name a store, and do not ask for a live view of it, a server works over its files, or it is
  -- reported why there is no configuration or no store, or there are no files to read
  pub record RunsOnFiles (image : Image) (words : List (List ℕ)) (old : Streams)
      (left : Left (FileStore D d)) (status : ℕ) : Type 0 where
    pub comes_to : ((fault : LineFault) × HasFault words fault
        × Tells (line_fault_number fault) status old left.streams)
        ⊎ ((order : Order) × AsksFor words order
        × ((files : Files) (work : Work) (path : List ℕ) → order ≡ orders.Over files work
        → option_map string_bytes files.store ≡ Some path → live_view (Some path) work ≡ None
        → ServesFiles image files work old left status
        ⊎ (TellsRefusal image files old left.streams status ⊎ ReadsNone work path)))

-- a fault with this number is reported on some stream, with this status
abbrev pub IsStatusOf : ℕ → ℕ → Type 0
IsStatusOf number status =
    (old : Stream) × (new : Stream) × TellsWith number (status_of number) status old new
