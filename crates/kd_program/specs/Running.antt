-- What the arguments of a command line do: what is written, and the exit status.
use Rattle.std.specs.Prelude.{◌≡◌, ◌⊎◌, ◌++◌, ℕ, Bool, false, true, List, Option, Some, None, Result, Ok, Err, is_some, option_map, string_bytes, vec_items}
use Rattle.std.specs.Result.{IsErrOf}
use Rattle.kd_answers.specs.Printed.{Answers}
use Rattle.kd_answers.specs.Status.{replay_status_of, serve_status_of}
use Rattle.kd_answers.specs.declared.printed.Printed.{Printed}
use Rattle.kd_config.specs.Configuration.{Configuration}
use Rattle.kd_io.specs.Faults.{look_fault_number}
use Rattle.kd_trouble.specs.Faults.{start_fault_number}
use Rattle.kd_event.specs.declared.ports.Ports.{Ports}
use Rattle.kd_keeps.specs.Fault.{store_fault_number}
use Rattle.kd_keeps.specs.Reading.{AreRead}
use Rattle.kd_keeps.specs.declared.keeps.Keeps.{Ghosts}
use Rattle.kd_trouble.specs.declared.troubles.StoreTrouble.{StoreTrouble}
use Rattle.kd_commands.specs.Order.{AsksFor, HasFault, line_fault_number}
use Rattle.kd_commands.specs.declared.fault.LineFault.{LineFault}
use Rattle.kd_commands.specs.declared.orders.Listening.{Listening}
use Rattle.kd_commands.specs.declared.orders.Order.{Order}
use Rattle.kd_commands.specs.declared.orders.Order.TheVariants as orders
use Rattle.kd_commands.specs.declared.orders.Service.{Service}
use Rattle.kd_commands.specs.declared.orders.View.{View}
use Rattle.kd_commands.specs.declared.orders.Work.{Work}
use Rattle.kd_commands.specs.declared.orders.Work.TheVariants as works
use Rattle.kd_loops.specs.Faults.{loop_fault_number, replay_fault_number, serve_fault_number}
use Rattle.kd_loops.specs.Replay.{HasReplayed}
use Rattle.kd_loops.specs.Serving.{ServesTo, Traffic, contents_in, failed_in}
use Rattle.kd_loops.specs.declared.ends.EndFailed.{EndFailed}
use Rattle.kd_loops.specs.declared.ends.Sink.{Ghosts as Sinks}
use Rattle.kd_loops.specs.declared.fault.LoopFault.{LoopFault}
use Rattle.kd_loops.specs.declared.fault.LoopFault.TheVariants as looping
use Rattle.kd_loops.specs.declared.fault.ReplayFault.{ReplayFault}
use Rattle.kd_loops.specs.declared.link.Link.{Ghosts as Links}
use Rattle.kd_loops.specs.declared.fault.ServeFault.{ServeFault}
use Rattle.kd_server.specs.Batch.{Batched}
use Rattle.kd_server.specs.Server.{IsUnopened, ServerState, Opens, Refuses, Steps, latest_in}
use Rattle.kd_log.specs.declared.events.filter.Filter.{Filter}
use Rattle.kd_program.specs.Banner.{removed_line, serving_line}
use Rattle.kd_program.specs.Checking.{ChecksStart, TriesConfig}
use Rattle.kd_program.specs.Importing.{ImportsInto}
use Rattle.kd_program.specs.Explaining.{ExplainsLine, standard_trial}
use Rattle.kd_program.specs.Listing.{ShowsView}
use Rattle.kd_program.specs.Printing.{PrintsEvents}
use Rattle.kd_program.specs.Streams.{At, Prints, Puts, ShowsOrBreaks, Starves, Stream, Streams, Tells, TellsWith, With}
use Rattle.kd_program.specs.declared.host.Host.{Ghosts as Hosts}
use Rattle.kd_commands.specs.declared.orders.Files.{Files}
use Rattle.kd_rows.specs.declared.row.Row.{Row}

-- the ports of a server: those of its arguments, or the standard ones (RFC 2131 section 4.1)
abbrev pub ports_asked : Work → Ports
ports_asked (works.Serve service) =
    record { server = service.listening.port; client = service.listening.client_port }
ports_asked other = record { server = 67; client = 68 }

-- how a replay ends: without a fault, or with its fault reported
abbrev pub EndsReplay : Result ℕ ReplayFault → ℕ → Stream → Stream → Type 0
EndsReplay (Ok count) status old new = (status ≡ 0) × (new ≡ old)
EndsReplay (Err fault) status old new =
    TellsWith (replay_fault_number fault) (replay_status_of fault) status old new

-- how serving ends: without a fault, or with its fault reported
abbrev pub EndsServe : Result Unit LoopFault → ℕ → Stream → Stream → Type 0
EndsServe (Ok done) status old new = (status ≡ 0) × (new ≡ old)
EndsServe (Err fault) status old new =
    TellsWith (loop_fault_number fault) (serve_status_of fault) status old new

-- the state of a server while it serves: a link, a record of what is received on it, if there is
-- one, the server, and its streams
pub record OnLink (L R S : Type 0) : Type 0 where
  pub link : L
  pub journal : Option R
  pub server : ServerState S
  pub streams : Streams

-- what has happened on a link, what the record contains, and what was written
abbrev pub traffic_of : {L R S : Type 0} → Links L → Sinks R → OnLink L R S → Traffic
traffic_of l r session =
    record {
      trace = l.trace session.link;
      recorded = contents_in r session.journal;
      written = session.streams.output.bytes;
    }

-- the store for work that only reads, by what a trial of its path found: where there is no database,
-- it is one in memory, so that none is made
abbrev pub store_found : List ℕ → Result Bool StoreTrouble → Option (List ℕ)
store_found path (Ok true) = Some path
store_found path (Ok false) = None
store_found path (Err trouble) = Some path

-- over a link, a record and a store of leases
module _ {L R S : Type 0} (l : Links L) (r : Sinks R) (g : Ghosts S) where
  -- a server serves `count` datagrams of a link, as long as the clock is not ahead of its limit; it
  -- records them, and their lines are written to standard output; if nothing can be received the
  -- link has failed, and likewise for the record and for standard output
  pub record Receives (service : Service) (before after : OnLink L R S) (status : ℕ) : Type 0 where
    pub result : Result Unit LoopFault
    pub served : ServesTo service.max_ahead latest_in (Batched g) result service.count
        before.server after.server (traffic_of l r before) (traffic_of l r after)
    pub read : IsErrOf result looping.Read → l.has_failed after.link ≡ true
    pub recorded : IsErrOf result looping.Record → failed_in r after.journal ≡ true
    pub write : IsErrOf result looping.Write → after.streams.output.failed ≡ true
    pub ends : EndsServe result status before.streams.faults after.streams.faults

-- over a store of leases
module _ {S : Type 0} (g : Ghosts S) where
  -- a server replays the rest of standard input to standard output
  pub record ReplaysInput (server after : ServerState S) (status : ℕ) (old new : Streams) : Type 0 where
    pub result : Result ℕ ReplayFault
    pub replayed : HasReplayed (Steps g) (Refuses g) (new.input.failed ≡ true) result server after
        old.input.bytes new.input.bytes old.output.bytes new.output.bytes
    pub ends : EndsReplay result status old.faults new.faults

-- what an order prints that needs only its arguments; memory may run out for it
abbrev pub Says : Order → ℕ → Streams → Streams → Type 0
Says order status old new =
    ((printed : Printed) × Answers order printed × Prints printed status old new)
    ⊎ Starves status old new

-- the requested replies of the log on standard input are printed
pub record SaysEvents (filter : Filter) (status : ℕ) (old new : Streams) : Type 0 where
  pub result : Result ℕ ReplayFault
  pub prints : PrintsEvents filter result old new
  pub ends : EndsReplay result status old.faults new.faults

-- over a host and the records that it gives
module _ {H N U L R : Type 0} (h : Hosts H N U L R) (r : Sinks R) where
  -- the host gives the record at a path, or there is none if there is no path
  abbrev pub GivesJournal : H → Option (List ℕ) → Result (Option R) EndFailed → H → Type 0
  GivesJournal before None result after = (result ≡ Ok None) × (after ≡ before)
  GivesJournal before (Some path) (Ok None) after = ⊥
  GivesJournal before (Some path) (Ok (Some sink)) after = h.records before path (Ok sink) after
  GivesJournal before (Some path) (Err failed) after = h.records before path (Err failed) after

-- over a host, its sockets and records, and a store of leases; a host has a state before and after
-- each result
module _ {H N U L R S : Type 0} (h : Hosts H N U L R) (l : Links L) (r : Sinks R)
    (g : Ghosts S) where
  -- the host gives a socket and, if there is a path for one, a record, and neither has failed; a
  -- line reports what was removed from the end of the record, if anything, and the next one what
  -- the server is, with the path of its store; and it serves datagrams of that socket
  pub record BeginsServing (store : Option (List ℕ)) (service : Service)
      (before after : With (ServerState S) H) (status : ℕ) : Type 0 where
    pub link : L
    pub bound : H
    pub given : h.binds before.at.host service.listening (Ok link) bound
    pub works : l.has_failed link ≡ false
    pub journal : Option R
    pub records : GivesJournal h r bound (option_map string_bytes service.journal) (Ok journal)
        after.at.host
    pub record_works : failed_in r journal ≡ false
    pub removed : ℕ
    pub between : Stream
    pub line : Puts
        (removed_line (option_map string_bytes service.journal) removed
        ++ serving_line service.listening before.held.config before.held.rows store)
        before.at.streams.faults between
    pub rest : L
    pub recorded : Option R
    pub receives : Receives l r g service
        (record {
          link = link;
          journal = journal;
          server = before.held;
          streams = record (before.at.streams) { faults = between };
        })
        (record {
          link = rest;
          journal = recorded;
          server = after.held;
          streams = after.at.streams;
        })
        status

  -- the host gives no socket, and this is reported
  pub record HasNoSocket (listening : Listening) (before after : At H) (status : ℕ) : Type 0 where
    pub failed : EndFailed
    pub given : h.binds before.host listening (Err failed) after.host
    pub told : Tells 94 status before.streams after.streams

  -- the host gives a socket and no record, and this is reported
  pub record HasNoJournal (service : Service) (before after : At H) (status : ℕ) : Type 0 where
    pub link : L
    pub bound : H
    pub given : h.binds before.host service.listening (Ok link) bound
    pub failed : EndFailed
    pub records : GivesJournal h r bound (option_map string_bytes service.journal) (Err failed)
        after.host
    pub told : Tells 100 status before.streams after.streams

  -- the host gives a socket and a record, and memory runs out for the line
  pub record HasNoLine (service : Service) (before after : At H) (status : ℕ) : Type 0 where
    pub link : L
    pub bound : H
    pub given : h.binds before.host service.listening (Ok link) bound
    pub journal : Option R
    pub records : GivesJournal h r bound (option_map string_bytes service.journal) (Ok journal)
        after.host
    pub told : Starves status before.streams after.streams

  -- a server serves datagrams of the host's socket, or stays as it is
  abbrev pub Listens : Option (List ℕ) → Service → With (ServerState S) H → With (ServerState S) H → ℕ → Type 0
  Listens store service before after status =
      BeginsServing store service before after status
      ⊎ ((after.held ≡ before.held) × (HasNoSocket service.listening before.at after.at status
      ⊎ (HasNoJournal service before.at after.at status
      ⊎ HasNoLine service before.at after.at status)))

  -- the work that a server is opened for over the store at a path, or in memory if there is none
  abbrev pub Works : Option (List ℕ) → Work → With (ServerState S) H → With (ServerState S) H → ℕ → Type 0
  Works store works.Replay before after status =
      (after.at.host ≡ before.at.host)
      × ReplaysInput g before.held after.held status before.at.streams after.at.streams
  Works store (works.Explain number) before after status =
      (after.at.host ≡ before.at.host) × ((after.held ≡ before.held)
      × ExplainsLine (standard_trial before.held.config before.held.rows) number status
      before.at.streams after.at.streams)
  Works store (works.Show view at live) before after status =
      (after.at.host ≡ before.at.host) × ((after.held ≡ before.held)
      × ShowsView view at (is_some (g.fault before.held.store)) before.held.config
      before.held.rows status before.at.streams after.at.streams)
  Works store (works.Serve service) before after status =
      Listens store service before after status

  -- a server with a configuration is opened over a store, at this path if it has one, does its
  -- work, and returns its store
  pub record IsServed (store : Option (List ℕ)) (work : Work) (config : Configuration)
      (before after : With S H) (status : ℕ) : Type 0 where
    pub server : ServerState S
    pub opened : Opens g (ports_asked work) config before.held server
    pub left : ServerState S
    pub worked : Works store work (record { held = server; at = before.at })
        (record { held = left; at = after.at }) status
    pub closed : after.held ≡ left.store

  -- no server is opened over a store, and this is reported
  pub record IsNotServed (config : Configuration) (before after : With S H)
      (status : ℕ) : Type 0 where
    pub fault : ServeFault
    pub same : Configuration
    pub refused : IsUnopened g config before.held fault same after.held
    pub stays : after.at.host ≡ before.at.host
    pub told : Tells (serve_fault_number fault) status before.at.streams after.at.streams

  -- one of the two
  abbrev pub ServesWork : Option (List ℕ) → Work → Configuration → With S H → With S H → ℕ → Type 0
  ServesWork store work config before after status =
      IsServed store work config before after status ⊎ IsNotServed config before after status

-- over a host
module _ {H N U L R : Type 0} (h : Hosts H N U L R) where
  -- a path was tried, and this is the store for work that only reads
  abbrev pub IsStoreFound : List ℕ → H → Option (List ℕ) → Type 0
  IsStoreFound path host store =
      (answer : Result Bool StoreTrouble) × h.tries host path answer
      × (store ≡ store_found path answer)

  -- the path of the store that work uses, which is in memory if there is none: the path that the
  -- operator gave, but work that only reads goes by what a trial of it found
  abbrev pub IsStoreFor : Option (List ℕ) → Work → H → Option (List ℕ) → Type 0
  IsStoreFor None work host store = store ≡ None
  IsStoreFor (Some path) works.Replay host store = store ≡ Some path
  IsStoreFor (Some path) (works.Explain number) host store = IsStoreFound path host store
  IsStoreFor (Some path) (works.Show view at live) host store = IsStoreFound path host store
  IsStoreFor (Some path) (works.Serve service) host store = store ≡ Some path

-- the path of a database, the view of it and its time, if work is a live view: another process may
-- have the database open
abbrev pub live_view : Option (List ℕ) → Work → Option (List ℕ × View × ℕ)
live_view (Some path) (works.Show view at true) = Some (path, view, at)
live_view path work = None

-- a host is asked for something: it gives it, and this follows; or it gives a fault, which is
-- reported by its number
abbrev pub Obtains : {H V F : Type 0} → (H → Result V F → H → Type 0) → (F → ℕ)
    → (V → At H → At H → ℕ → Type 0) → At H → At H → ℕ → Type 0
Obtains {H} {V} {F} gives number Follows before after status =
    ((value : V) × (asked : H) × gives before.host (Ok value) asked
    × Follows value (record before { host = asked }) after status)
    ⊎ ((fault : F) × gives before.host (Err fault) after.host
    × Tells (number fault) status before.streams after.streams)

-- over a host
module _ {H N U L R : Type 0} (h : Hosts H N U L R) where
  -- the host gives the rows of the database at a path, and a view of them is shown; memory may run
  -- out for it
  abbrev pub Looks : List ℕ → View → ℕ → Configuration → At H → At H → ℕ → Type 0
  Looks path view at config =
      Obtains (λ old rows new. h.copies old path rows new) (λ fault. look_fault_number fault)
      (λ (rows : List Row) before after status. (after.host ≡ before.host)
      × (ShowsView view at false config rows status before.streams after.streams
      ⊎ Starves status before.streams after.streams))

-- over a host with its two sorts of stores, its sockets and its records
module _ {H N U L R : Type 0} (h : Hosts H N U L R) (named : Ghosts N) (unnamed : Ghosts U)
    (l : Links L) (r : Sinks R) where
  -- a server works over a store at a path that the host has opened, which has not failed, and the
  -- store is returned to the host
  pub record WorksAt (path : List ℕ) (work : Work) (config : Configuration) (store : N)
      (before after : At H) (status : ℕ) : Type 0 where
    pub works : is_some (named.fault store) ≡ false
    pub back : N
    pub left : H
    pub serves : ServesWork h l r named (Some path) work config
        (record { held = store; at = before })
        (record { held = back; at = record after { host = left } }) status
    pub closed : h.closes left path back after.host

  -- a server works over a store in memory that the host has made, which has not failed
  pub record WorksInMemory (work : Work) (config : Configuration) (store : U)
      (before after : At H) (status : ℕ) : Type 0 where
    pub works : is_some (unnamed.fault store) ≡ false
    pub back : U
    pub serves : ServesWork h l r unnamed None work config
        (record { held = store; at = before }) (record { held = back; at = after }) status

  -- a server works over the host's store, with or without a path
  abbrev pub WorksOver : Option (List ℕ) → Work → Configuration → At H → At H → ℕ → Type 0
  WorksOver (Some path) work config =
      Obtains (λ old store new. h.opens old path store new) (λ fault. store_fault_number fault)
      (λ store. WorksAt path work config store)
  WorksOver None work config =
      Obtains (λ old store new. h.makes old store new) (λ fault. store_fault_number fault)
      (λ store. WorksInMemory work config store)

  -- a server works over the store for its work, where the operator gave this path
  pub record WorksAsServer (path : Option (List ℕ)) (work : Work) (config : Configuration)
      (before after : At H) (status : ℕ) : Type 0 where
    pub store : Option (List ℕ)
    pub is_for : IsStoreFor h path work before.host store
    pub works : WorksOver store work config before after status

  -- a live view, if work is one, or what a server does
  abbrev pub WorksBy : Option (List ℕ × View × ℕ) → Option (List ℕ) → Work → Configuration → At H
      → At H → ℕ → Type 0
  WorksBy (Some (live, view, at)) path work config before after status =
      Looks h live view at config before after status
  WorksBy None path work config before after status =
      WorksAsServer path work config before after status

  -- work under a configuration, where the operator gave this path of a store
  pub record WorksUnder (path : Option (List ℕ)) (work : Work) (config : Configuration)
      (before after : At H) (status : ℕ) : Type 0 where
    pub live : Option (List ℕ × View × ℕ)
    pub is_live : live ≡ live_view path work
    pub works : WorksBy live path work config before after status

  -- work under the configuration of these files, over the store that they name
  abbrev pub Starts : Files → Work → At H → At H → ℕ → Type 0
  Starts files work =
      Obtains (λ old config new. h.configures old files config new) (λ fault. start_fault_number fault)
      (λ config. WorksUnder (option_map string_bytes files.store) work config)

  -- the lines on standard input are imported into a store that the host has opened at a path, and
  -- the store is returned to the host
  pub record ImportsAt (path : List ℕ) (store : N) (before after : At H) (status : ℕ) : Type 0 where
    pub rows : List Row
    pub read : AreRead named store rows
    pub back : N
    pub imports : ImportsInto named rows store back status before.streams after.streams
    pub closed : h.closes before.host path back after.host

  -- an import into the store at a path
  abbrev pub Imports : List ℕ → At H → At H → ℕ → Type 0
  Imports path =
      Obtains (λ old store new. h.opens old path store new) (λ fault. store_fault_number fault)
      (λ store. ImportsAt path store)

  -- what an order does
  abbrev pub CarriesOut : Order → At H → At H → ℕ → Type 0
  CarriesOut (orders.Over files work) before after status = Starts files work before after status
  CarriesOut (orders.Import store) before after status =
      Imports (string_bytes store) before after status
  CarriesOut (orders.Test files) before after status = TriesConfig h files before after status
  CarriesOut (orders.Check files place) before after status =
      ChecksStart h files place before after status
  CarriesOut (orders.Events mac address) before after status =
      (after.host ≡ before.host)
      × SaysEvents (record { mac = option_map vec_items mac; address = address }) status
      before.streams after.streams
  CarriesOut orders.Version before after status =
      (after.host ≡ before.host)
      × ShowsOrBreaks (h.version before.host) 0 status before.streams.output after.streams.output
      before.streams.faults after.streams.faults
  CarriesOut other before after status =
      (after.host ≡ before.host) × Says other status before.streams after.streams

  -- what arguments do: the fault that they have is reported, or what they ask for is done
  abbrev pub Carries : List (List ℕ) → At H → At H → ℕ → Type 0
  Carries words before after status =
      ((fault : LineFault) × HasFault words fault × (after.host ≡ before.host)
      × Tells (line_fault_number fault) status before.streams after.streams)
      ⊎ ((order : Order) × AsksFor words order × CarriesOut order before after status)
