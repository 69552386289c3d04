-- Sessions of a server that keeps a record and a log, and what a replay of the record writes: the
-- log again, except for the lines `fault 99 Send`.
use Rattle.std.specs.Prelude.{◌≡◌, ◌≢◌, ℕ, Bool, true, List, [], ◌∷◌, ◌++◌, Option, Some, Result, Ok, Err, codes, map, not}
use Rattle.std.specs.List.{All, filter, flat_map}
use Rattle.std.specs.Str.{bytes_eq}
use Rattle.kd_config.specs.Configuration.{Configuration}
use Rattle.kd_event.specs.declared.event.Event.{Event}
use Rattle.kd_event.specs.declared.ports.Ports.{Ports}
use Rattle.kd_keeps.specs.declared.keeps.Keeps.{Ghosts}
use Rattle.kd_loops.specs.Arriving.{IsRecordable}
use Rattle.kd_loops.specs.History as past
use Rattle.kd_loops.specs.Lines.{lines_of}
use Rattle.kd_loops.specs.Recording.{record_line}
use Rattle.kd_loops.specs.Replay.{Did, Stops}
use Rattle.kd_loops.specs.Serving.{Answered, ServesTo, Traffic, text_of}
use Rattle.kd_loops.specs.Text.{line_of}
use Rattle.kd_loops.specs.declared.fault.LoopFault.{LoopFault}
use Rattle.kd_loops.specs.declared.fault.LoopFault.TheVariants as faults
use Rattle.kd_loops.specs.declared.fault.ReplayFault.{ReplayFault}
use Rattle.kd_loops.specs.declared.fault.ReplayFault.TheVariants as replaying
use Rattle.kd_rows.specs.declared.row.Row.{Row}
use Rattle.kd_server.specs.Batch.{Batched}
use Rattle.kd_server.specs.Server.{ServerState, Refuses, Steps, StepsTo, latest_in}
use Rattle.kd_laws.specs.OneStep.{StandAlike}

-- a file whose bytes are known has grown by these bytes
pub record HasGrown (old new : Option (List ℕ)) (more : List ℕ) : Type 0 where
  pub first : List ℕ
  pub old_is : old ≡ Some first
  pub new_is : new ≡ Some (first ++ more)

-- serving ends between two batches: all datagrams that were asked for are served, none can be
-- received, or the clock is ahead
abbrev pub IsBetweenBatches : Result Unit LoopFault → Type 0
IsBetweenBatches (Ok done) = Unit {0}
IsBetweenBatches (Err faults.Read) = Unit {0}
IsBetweenBatches (Err faults.Ahead) = Unit {0}
IsBetweenBatches (Err fault) = ⊥

-- a session of a server, as seen from outside: the rows with which it begins and ends, and what it
-- appends to the record and to the log
pub record Session : Type 0 where
  pub begins : List Row
  pub ends : List Row
  pub recorded : List ℕ
  pub logged : List ℕ

-- a server over any store that keeps leases serves a session, which ends between two batches
pub record ServesSession {S : Type 0} (g : Ghosts S) (session : Session)
    (old new : ServerState S) : Type 0 where
  pub limit : Option ℕ
  pub result : Result Unit LoopFault
  pub count : ℕ
  pub before : Traffic
  pub after : Traffic
  pub serves : ServesTo limit latest_in (Batched g) result count old new before after
  pub between : IsBetweenBatches result
  pub begins : old.rows ≡ session.begins
  pub ends : new.rows ≡ session.ends
  pub recorded : HasGrown before.recorded after.recorded session.recorded
  pub logged : HasGrown before.written after.written session.logged

-- these lines without those that say that a reply could not be sent
abbrev pub without_send_faults : List (List ℕ) → List (List ℕ)
without_send_faults lines = filter (λ line. not (bytes_eq line (codes "fault 99 Send"))) lines

-- a text grows by a log, except for the lines that say that a reply could not be sent: the log is
-- the text of answered datagrams, and the text grows by the line of each
pub record GrowsByLog (log old new : List ℕ) : Type 0 where
  pub more : List ℕ
  pub grown : new ≡ old ++ more
  pub lines : lines_of more ≡ without_send_faults (lines_of log)
  pub answers : List Answered
  pub log_is : log ≡ flat_map text_of answers
  pub more_is : more ≡ flat_map (λ a. line_of a.handled) answers

-- a server, over a store of any type, that is alike with the one that begins a session replays what
-- was recorded, to the end: it writes what was logged, except for the lines `fault 99 Send`, and is
-- alike with the one that ends the session
abbrev pub ReplayRepeatsSession : {S T : Type 0} → Ghosts S → Ghosts T → Type 0
ReplayRepeatsSession {S} {T} g h =
    (session : Session) (old new : ServerState S) (its last : ServerState T) (text out : List ℕ)
    → ServesSession g session old new → StandAlike old its
    → Did (Steps h) (lines_of session.recorded) its last text out
    → GrowsByLog session.logged text out × StandAlike new last

module _ (config : Configuration) (ports : Ports) where
  -- what a session was, whatever the store: events with a history from its first rows to its last;
  -- the record has their lines, and the log has their answers
  pub record WasSession (session : Session) : Type 0 where
    pub events : List Event
    pub recordable : All IsRecordable events
    pub answers : List Answered
    pub history : past.History (StepsTo config ports) session.begins events
        (map (λ a. a.handled) answers) session.ends
    pub recorded : session.recorded ≡ flat_map record_line events
    pub logged : session.logged ≡ flat_map text_of answers

  -- sessions follow one another, each from the rows with which the previous one ended
  abbrev pub SessionsFollow : List Row → List Session → List Row → Type 0
  SessionsFollow rows [] last = last ≡ rows
  SessionsFollow rows (session ∷ sessions) last =
      (session.begins ≡ rows) × WasSession session × SessionsFollow session.ends sessions last

  -- a server has this configuration, these ports and these rows
  pub record IsServerOver {S : Type 0} (rows : List Row) (server : ServerState S) : Type 0 where
    pub ports_are : server.ports ≡ ports
    pub config_is : server.config ≡ config
    pub rows_are : server.rows ≡ rows

-- what a server serves is such a session, under its configuration and its ports, which it keeps
abbrev pub SessionsAreHistories : {S : Type 0} → Ghosts S → Type 0
SessionsAreHistories {S} g =
    (session : Session) (old new : ServerState S) → ServesSession g session old new
    → WasSession old.config old.ports session
    × IsServerOver old.config old.ports session.ends new

-- one replay of all that sessions recorded, over the rows with which the first began, to the end:
-- it writes all that they logged, except for the lines `fault 99 Send`, and ends with the last rows
abbrev pub ReplayRepeatsSessions : {T : Type 0} → Ghosts T → Type 0
ReplayRepeatsSessions {T} h =
    (config : Configuration) (ports : Ports) (rows last : List Row) (sessions : List Session)
    (its new : ServerState T) (text out : List ℕ)
    → SessionsFollow config ports rows sessions last → IsServerOver config ports rows its
    → Did (Steps h) (lines_of (flat_map (λ s. s.recorded) sessions)) its new text out
    → GrowsByLog (flat_map (λ s. s.logged) sessions) text out
    × IsServerOver config ports last new

-- a text grows by a prefix of a log, except for those lines: with some more bytes it has grown by
-- the log
pub record GrowsByPrefix (log old new : List ℕ) : Type 0 where
  pub more : List ℕ
  pub grown : new ≡ old ++ more
  pub rest : List ℕ
  pub whole : GrowsByLog log old (new ++ rest)

-- if such a replay stops early, it has written a prefix of what was logged, except for those lines,
-- and it never stops because a line is not an event
abbrev pub ReplayStopsOnTheWay : {T : Type 0} → Ghosts T → Type 0
ReplayStopsOnTheWay {T} h =
    (config : Configuration) (ports : Ports) (rows last : List Row) (sessions : List Session)
    (failed : Bool) (fault : ReplayFault) (its new : ServerState T) (text out : List ℕ)
    → SessionsFollow config ports rows sessions last → IsServerOver config ports rows its
    → Stops (Steps h) (Refuses h) (failed ≡ true) fault
    (lines_of (flat_map (λ s. s.recorded) sessions)) its new text out
    → GrowsByPrefix (flat_map (λ s. s.logged) sessions) text out
    × ((line : ℕ) → fault ≢ replaying.BadLine line)
