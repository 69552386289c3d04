-- The orders of the command line: the table of its subcommands and their parameters, the command
-- line that the crate `clap` reads by it, which arguments give which order over what `clap` makes of
-- them, and the numbers of the faults.
use Rattle.std.specs.Prelude.{◌≡◌, ◌≢◌, ◌⊎◌, ◌+◌, ◌*◌, ◌==◌, ◌^◌, ◌||◌, ◌++◌, ℕ, Bool, true, false, not, List, [], ◌∷◌, fold, map}
use Rattle.std.specs.Prelude.{Option, Some, None, is_some, Result, Ok, Err, codes, option_and_then, option_map, if◌then◌else◌}
use Rattle.std.specs.Option.{option_map_or}
use Rattle.std.specs.Str.{bytes_eq}
use Rattle.std.specs.String.{string_bytes}
use Rattle.clap.specs.Words.{App, IsAmong, Row, Rule, Text, fault_of, first_of, new_app, new_rule}
use Rattle.clap.specs.Words.{subcommand_of, with_subcommand}
use Rattle.clap.specs.Simple.{on_top}
use Rattle.clap.specs.declared.builder.action.ArgAction.TheVariants.{Set, SetTrue}
use Rattle.clap.specs.declared.error.kind.ErrorKind.{ErrorKind}
use Rattle.clap.specs.declared.error.kind.ErrorKind.TheVariants.{DisplayHelp, DisplayVersion}
use Rattle.kd_commands.specs.declared.fault.LineFault.{LineFault}
use Rattle.kd_commands.specs.declared.fault.LineFault.TheVariants.{CommandLine, Memory}
use Rattle.kd_wire.specs.Steps.{◌>>=◌}
use Rattle.kd_commands.specs.Values.{address_of, event_line_of, hardware_of, host_address_of, number_of, port_of, read_if_given, read_or}
use Rattle.kd_commands.specs.declared.orders.Files.{Files}
use Rattle.kd_commands.specs.declared.orders.Form.{Form}
use Rattle.kd_commands.specs.declared.orders.Form.TheVariants.{Kea, Own}
use Rattle.kd_commands.specs.declared.orders.Listening.{Listening}
use Rattle.kd_commands.specs.declared.orders.Place.{Place}
use Rattle.kd_commands.specs.declared.orders.Order.{Order}
use Rattle.kd_commands.specs.declared.orders.Order.TheVariants.{Help, Version, Show, Expr, Compile, Verify, Eval, EvalText}
use Rattle.kd_commands.specs.declared.orders.Order.TheVariants.{Check, Events, Import, Over, Test}
use Rattle.kd_commands.specs.declared.orders.View.{View}
use Rattle.kd_commands.specs.declared.orders.View.TheVariants.{Leases, Metrics, Pools, Why}
use Rattle.kd_commands.specs.declared.orders.Work.{Work}
use Rattle.kd_commands.specs.declared.orders.Work.TheVariants.{Explain, Replay, Serve, Show as ShowView}

-- the number that a fault is printed with
abbrev pub line_fault_number : LineFault → ℕ
line_fault_number CommandLine = 98
line_fault_number Memory = 91

-- ---- the table of subcommands

-- a parameter of a subcommand, by its name
pub data Parameter : Type 0 where
  -- a text, which is required: the first is for the first such parameter, and so on
  needs_text : Text → Parameter
  -- a flag, `--name`
  takes_flag : Text → Parameter
  -- an option, `--name value`
  takes_value : Text → Parameter
  -- an option that is required
  needs_value : Text → Parameter

-- the parameters of a subcommand over a configuration
abbrev pub config_parameters : List Parameter
config_parameters =
    takes_value (codes "config") ∷ takes_value (codes "kea")
    ∷ takes_value (codes "server-address") ∷ takes_value (codes "token-dir") ∷ []

-- the parameters of a subcommand over files
abbrev pub file_parameters : List Parameter
file_parameters = config_parameters ++ takes_value (codes "store") ∷ []

-- the parameters of a subcommand that prints a view of a store at a time
abbrev pub view_parameters : List Parameter
view_parameters =
    file_parameters ++ takes_flag (codes "live") ∷ needs_value (codes "at") ∷ []

-- the subcommands over texts of the command line, each by its name, with its parameters
abbrev pub table_on_texts : List (Text × List Parameter)
table_on_texts =
    (codes "show", takes_flag (codes "names") ∷ needs_text (codes "HEX") ∷ [])
    ∷ (codes "expr", needs_text (codes "TEXT") ∷ [])
    ∷ (codes "compile", needs_text (codes "TEXT") ∷ [])
    ∷ (codes "verify", needs_text (codes "HEX") ∷ [])
    ∷ (
      codes "eval",
      takes_flag (codes "text") ∷ needs_text (codes "PROGRAM")
          ∷ needs_text (codes "DATAGRAM") ∷ [],
    )
    ∷ []

-- those over a store, or over events as a server handles them
abbrev pub table_on_leases : List (Text × List Parameter)
table_on_leases =
    (codes "replay", file_parameters ++ takes_value (codes "why") ∷ [])
    ∷ (codes "leases", view_parameters)
    ∷ (codes "pools", view_parameters ++ takes_flag (codes "prometheus") ∷ [])
    ∷ (codes "why", view_parameters ++ needs_text (codes "HEX") ∷ [])
    ∷ []

-- those around a server, and the server
abbrev pub table_around_servers : List (Text × List Parameter)
table_around_servers =
    (codes "import", needs_value (codes "store") ∷ [])
    ∷ (codes "events", takes_value (codes "mac") ∷ takes_value (codes "address") ∷ [])
    ∷ (codes "test", config_parameters)
    ∷ (
      codes "check",
      file_parameters ++ takes_value (codes "bind") ∷ takes_value (codes "port")
          ∷ takes_value (codes "max-ahead") ∷ [],
    )
    ∷ (
      codes "serve",
      file_parameters ++ takes_value (codes "bind") ∷ takes_value (codes "port")
          ∷ takes_value (codes "client-port") ∷ needs_value (codes "count")
          ∷ takes_value (codes "broadcast-as") ∷ takes_flag (codes "mirror")
          ∷ takes_value (codes "record") ∷ takes_value (codes "max-ahead") ∷ [],
    )
    ∷ []

-- each subcommand
abbrev pub subcommand_table : List (Text × List Parameter)
subcommand_table = table_on_texts ++ (table_on_leases ++ table_around_servers)

-- ---- the command line of `clap`

-- a required argument
abbrev pub needed_rule : Text → Rule
needed_rule id = record (new_rule id) { required = true }

-- a flag
abbrev pub flag_rule : Text → Rule
flag_rule name = record (new_rule name) { long = Some name; action = Some SetTrue }

-- an option with one value
abbrev pub value_rule : Text → Rule
value_rule name = record (new_rule name) { long = Some name; action = Some Set; value_names = 1 }

-- a required option with one value
abbrev pub needed_value : Text → Rule
needed_value name = record (value_rule name) { required = true }

-- what a parameter is to `clap`
abbrev pub parameter_rule : Parameter → Rule
parameter_rule (needs_text name) = needed_rule name
parameter_rule (takes_flag name) = flag_rule name
parameter_rule (takes_value name) = value_rule name
parameter_rule (needs_value name) = needed_value name

-- a subcommand of the table to `clap`
abbrev pub subcommand_line : Text × List Parameter → App
subcommand_line entry =
    on_top (λ s. record s { rules = map parameter_rule entry.1 }) (new_app entry.0)

-- the program: its arguments do not include its name, it has a flag for its version, and it
-- requires a subcommand
abbrev pub program_line : App
program_line =
    on_top (λ s. record s { has_version = true; no_binary_name = true; subcommand_required = true })
    (new_app (codes "kdhcp"))

-- a command line with one more subcommand
abbrev pub with_entry : App → Text × List Parameter → App
with_entry line entry = with_subcommand line (subcommand_line entry).top

-- the whole command line
abbrev pub command_line : App
command_line = fold with_entry program_line subcommand_table

-- ---- what the arguments ask for

-- the paths of the configuration file, the folder of the token files and the lease file, if they
-- are given, and whose form the configuration has
pub record Paths : Type 0 where
  pub config : Option Text
  pub form : Form
  pub token_dir : Option Text
  pub store : Option Text

-- what is printed of the leases of a store
pub data Sight : Type 0 where
  -- the leases, one line each
  leases : Sight
  -- how full the pools are
  pools : Sight
  -- how full the pools are, as metrics
  metrics : Sight
  -- what answer the datagram in this text gets, and why
  answers : Text → Sight

-- how datagrams of a socket are served
pub record Serving : Type 0 where
  -- the address of the socket, and where replies go
  pub listening : Listening
  -- the number of datagrams to serve
  pub count : ℕ
  -- the file to which received datagrams are appended, if one is given
  pub journal : Option Text
  -- how many seconds the clock may run ahead, if a limit is given
  pub max_ahead : Option ℕ

-- what is done over a configuration and a store
pub data Task : Type 0 where
  -- a replay of the events of standard input
  replays : Task
  -- an explanation of the event of this line
  explains : ℕ → Task
  -- this view of the leases at this time; whether another process may have the lease file open
  prints : Sight → ℕ → Bool → Task
  -- serving datagrams of a socket
  serves : Serving → Task

-- what a subcommand asks for
pub data Asked : Type 0 where
  -- the lines of the datagram in this text, and whether the names of its options are printed
  shows : Text → Bool → Asked
  -- the number of nodes of the class test in this text
  types : Text → Asked
  -- the token file of the program of the class test in this text
  compiles : Text → Asked
  -- whether the program of the token file in this text is accepted
  verifies : Text → Asked
  -- the run of the program of the token file in the first text over the datagram in the second
  evaluates : Text → Text → Asked
  -- the run of the program of the class test in the first text over the datagram in the second
  tests : Text → Text → Asked
  -- work over the files with these paths
  works : Paths → Task → Asked
  -- an import of the lines of leases on standard input into the store in this file
  imports : Text → Asked
  -- the lines of a log on standard input, printed for people: those for the hardware address with
  -- these bytes and for this address, if they are given
  filters : Option (List ℕ) → Option ℕ → Asked
  -- a trial of the configuration in these files
  tries : Paths → Asked
  -- a trial of each step of a start, without serving, at a socket
  checks : Paths → Place → Asked

-- The texts of a subcommand's parameters are a function of their names: the text that is given, or
-- `true` or `false` for a flag.

-- whether a flag was given, from its text
abbrev pub flag_is_given : Option Text → Bool
flag_is_given value = option_map_or (λ v. bytes_eq v (codes "true")) value false

-- the paths with these texts of `--config`, `--kea`, `--token-dir` and `--store`, and this address of
-- the server: a configuration in Kea's form has no token files, and only there an address is given
abbrev pub paths_with : Option Text → Option Text → Option ℕ → Option Text → Option Text
    → Option Paths
paths_with config None None folder store =
    Some (record { config = config; form = Own; token_dir = folder; store = store })
paths_with None (Some file) address None store =
    Some (record { config = Some file; form = Kea address; token_dir = None; store = store })
paths_with config kea address folder store = None

-- the paths in these texts, if each text that is given is well formed and they go together
abbrev pub paths_of : (Text → Option Text) → Option Paths
paths_of text = do
  address ← read_if_given host_address_of (text (codes "server-address"))
  paths_with (text (codes "config")) (text (codes "kea")) address (text (codes "token-dir"))
      (text (codes "store"))

-- whose form it is, where a socket has an address: that is the server's if it is one of a host and no
-- other is given
abbrev pub form_bound : ℕ → Form → Form
form_bound address Own = Own
form_bound address (Kea None) = Kea (if address == 0 then None else Some address)
form_bound address (Kea (Some own)) = Kea (Some own)

-- the paths of work that has a socket at an address
abbrev pub paths_bound : ℕ → Paths → Paths
paths_bound address paths = record paths { form = form_bound address paths.form }

-- what `show` is asked to do
abbrev pub showing_of : (Text → Option Text) → Option Asked
showing_of text = option_map (λ hex. shows hex (flag_is_given (text (codes "names"))))
    (text (codes "HEX"))

-- what `eval` is asked to do
abbrev pub evaluation_of : (Text → Option Text) → Option Asked
evaluation_of text = do
  program ← text (codes "PROGRAM")
  datagram ← text (codes "DATAGRAM")
  Some (if flag_is_given (text (codes "text")) then tests program datagram
      else evaluates program datagram)

-- a replay, or the explanation of the event of a line
abbrev pub replay_of : Option ℕ → Task
replay_of None = replays
replay_of (Some line) = explains line

-- what `replay` is asked to do, if the text for a line number, when given, is one
abbrev pub replaying_of : (Text → Option Text) → Option Asked
replaying_of text = do
  line ← read_if_given event_line_of (text (codes "why"))
  paths ← paths_of text
  Some (works paths (replay_of line))

-- what is asked with these paths for a view at a time: the lease file is needed if another process
-- may have it open
abbrev pub view_with : Paths → Sight → ℕ → Bool → Option Asked
view_with paths sight moment live =
    if not live || is_some paths.store then Some (works paths (prints sight moment live)) else None

-- what `leases`, `pools` and `why` are asked to do, by what is printed
abbrev pub viewing_of : Sight → (Text → Option Text) → Option Asked
viewing_of sight text = do
  digits ← text (codes "at")
  moment ← number_of digits
  paths ← paths_of text
  view_with paths sight moment (flag_is_given (text (codes "live")))

-- what `pools` prints, by the text of its flag `--prometheus`
abbrev pub pools_sight : Option Text → Sight
pools_sight value = if flag_is_given value then metrics else pools

-- what `why` is asked to do
abbrev pub answering_of : (Text → Option Text) → Option Asked
answering_of text = do
  hex ← text (codes "HEX")
  viewing_of (answers hex) text

-- 127.0.0.1
abbrev pub loopback : ℕ
loopback = 127 * 2 ^ 24 + 1

-- where the socket is and where replies go, if each text that is given is in range; by default the
-- address is 127.0.0.1, the port 67, the clients' port 68, and 255.255.255.255 is used as it is
abbrev pub listening_of : (Text → Option Text) → Option Listening
listening_of text = do
  address ← read_or address_of loopback (text (codes "bind"))
  own ← read_or port_of 67 (text (codes "port"))
  clients ← read_or port_of 68 (text (codes "client-port"))
  everyone ← read_if_given address_of (text (codes "broadcast-as"))
  Some (record {
    bind = address;
    port = own;
    client_port = clients;
    broadcast_as = everyone;
    mirror = flag_is_given (text (codes "mirror"));
  })

-- what `events` is asked to do, if each text that is given is well formed
abbrev pub filtering_of : (Text → Option Text) → Option Asked
filtering_of text = do
  bytes ← read_if_given hardware_of (text (codes "mac"))
  number ← read_if_given address_of (text (codes "address"))
  Some (filters bytes number)

-- what `test` is asked to do
abbrev pub trying_of : (Text → Option Text) → Option Asked
trying_of text = option_map (λ paths. tries paths) (paths_of text)

-- what `check` is asked to do, if each text that is given is in range; by default the address is
-- 127.0.0.1 and the port 67
abbrev pub checking_of : (Text → Option Text) → Option Asked
checking_of text = do
  address ← read_or address_of loopback (text (codes "bind"))
  own ← read_or port_of 67 (text (codes "port"))
  seconds ← read_if_given number_of (text (codes "max-ahead"))
  paths ← paths_of text
  Some (checks (paths_bound address paths)
      (record { bind = address; port = own; max_ahead = seconds }))

-- what `serve` is asked to do, if each text that is given is in range and the count is given
abbrev pub serving_of : (Text → Option Text) → Option Asked
serving_of text = do
  listening ← listening_of text
  digits ← text (codes "count")
  count ← number_of digits
  seconds ← read_if_given number_of (text (codes "max-ahead"))
  paths ← paths_of text
  Some (works (paths_bound listening.bind paths) (serves (record {
    listening = listening;
    count = count;
    journal = text (codes "record");
    max_ahead = seconds;
  })))

-- what the subcommand of this name asks for with these texts
abbrev pub asked_by : Text → (Text → Option Text) → Option Asked
asked_by name text =
    if bytes_eq name (codes "show") then showing_of text
    else (if bytes_eq name (codes "expr") then option_map (λ t. types t) (text (codes "TEXT"))
    else (if bytes_eq name (codes "compile") then option_map (λ t. compiles t) (text (codes "TEXT"))
    else (if bytes_eq name (codes "verify") then option_map (λ hex. verifies hex) (text (codes "HEX"))
    else (if bytes_eq name (codes "eval") then evaluation_of text
    else (if bytes_eq name (codes "replay") then replaying_of text
    else (if bytes_eq name (codes "leases") then viewing_of leases text
    else (if bytes_eq name (codes "pools") then viewing_of
    (pools_sight (text (codes "prometheus"))) text
    else (if bytes_eq name (codes "why") then answering_of text
    else (if bytes_eq name (codes "import")
    then option_map (λ store. imports store) (text (codes "store"))
    else (if bytes_eq name (codes "events") then filtering_of text
    else (if bytes_eq name (codes "test") then trying_of text
    else (if bytes_eq name (codes "check") then checking_of text
    else (if bytes_eq name (codes "serve") then serving_of text
    else None)))))))))))))

-- the same for the subcommand that was entered, if any, with its matches
abbrev pub asked_of : Option (Text × List Row) → Option Asked
asked_of = option_and_then (λ entered. asked_by entered.0 (λ name. first_of name entered.1))

-- `clap` finds no fault in the arguments, and their subcommand asks for this
pub record Asks (words : List Text) (asked : Asked) : Type 0 where
  pub whole : fault_of command_line words ≡ []
  pub entered : asked_of (subcommand_of command_line words) ≡ Some asked

-- the first step at which the arguments fail may be a request for help
abbrev pub IsHelp : List Text → Type 0
IsHelp words = IsAmong DisplayHelp (fault_of command_line words)

-- the first step at which the arguments fail may be a request for the version
abbrev pub IsVersion : List Text → Type 0
IsVersion words = IsAmong DisplayVersion (fault_of command_line words)

-- `clap` finds no fault in the arguments, but their subcommand asks for nothing: a text is out of
-- range or malformed, or options are given that do not go together, as `--live` without `--store`
pub record AsksNothing (words : List Text) : Type 0 where
  pub whole : fault_of command_line words ≡ []
  pub entered : asked_of (subcommand_of command_line words) ≡ None

-- the first step at which the arguments fail may be something other than a request for help or for
-- the version, or the arguments ask for nothing
abbrev pub IsMistake : List Text → Type 0
IsMistake words =
    ((kind : ErrorKind) × IsAmong kind (fault_of command_line words) × (kind ≢ DisplayHelp)
    × (kind ≢ DisplayVersion))
    ⊎ AsksNothing words

-- ---- what an order gives

-- the paths of files
abbrev pub paths_in : Files → Paths
paths_in files = record {
  config = option_map string_bytes files.config;
  form = files.form;
  token_dir = option_map string_bytes files.token_dir;
  store = option_map string_bytes files.store;
}

-- what a view prints
abbrev pub sight_of : View → Sight
sight_of Leases = leases
sight_of Pools = pools
sight_of Metrics = metrics
sight_of (Why hex) = answers (string_bytes hex)

-- what a subcommand can ask for that this work over these files is
abbrev pub working_of : Files → Work → Option Asked
working_of files Replay = Some (works (paths_in files) replays)
working_of files (Explain line) = Some (works (paths_in files) (explains line))
working_of files (ShowView view at live) = view_with (paths_in files) (sight_of view) at live
working_of files (Serve service) = Some (works (paths_in files) (serves (record {
  listening = service.listening;
  count = service.count;
  journal = option_map string_bytes service.journal;
  max_ahead = service.max_ahead;
})))

-- what a subcommand can ask for that this order gives: nothing if it is a view of a store that
-- another process may have open, without the path of the store
abbrev pub given_by : Order → Option Asked
given_by (Help text) = None
given_by Version = None
given_by (Show hex names) = Some (shows (string_bytes hex) names)
given_by (Expr text) = Some (types (string_bytes text))
given_by (Compile text) = Some (compiles (string_bytes text))
given_by (Verify hex) = Some (verifies (string_bytes hex))
given_by (Eval program datagram) = Some (evaluates (string_bytes program) (string_bytes datagram))
given_by (EvalText text datagram) = Some (tests (string_bytes text) (string_bytes datagram))
given_by (Over files work) = working_of files work
given_by (Import store) = Some (imports (string_bytes store))
given_by (Events mac address) = Some (filters (option_map (λ bytes. bytes.items) mac) address)
given_by (Test files) = Some (tries (paths_in files))
given_by (Check files place) = Some (checks (paths_in files) place)

-- the arguments ask for what is given, if anything is
abbrev pub AsksGiven : List Text → Option Asked → Type 0
AsksGiven words None = ⊥
AsksGiven words (Some asked) = Asks words asked

-- the arguments ask for this order
abbrev pub AsksFor : List Text → Order → Type 0
AsksFor words (Help text) = IsHelp words
AsksFor words Version = IsVersion words
AsksFor words order = AsksGiven words (given_by order)

-- the arguments have this fault; memory may run out for any arguments
abbrev pub HasFault : List Text → LineFault → Type 0
HasFault words CommandLine = IsMistake words
HasFault words Memory = Unit {0}

-- the result gives what was asked, or memory ran out
abbrev pub GivesUnlessFull : Asked → Result Order LineFault → Type 0
GivesUnlessFull asked (Ok order) = given_by order ≡ Some asked
GivesUnlessFull asked (Err CommandLine) = ⊥
GivesUnlessFull asked (Err Memory) = Unit {0}

-- the result is help, or memory ran out
abbrev pub HelpsUnlessFull : Result Order LineFault → Type 0
HelpsUnlessFull (Ok (Help text)) = Unit {0}
HelpsUnlessFull (Ok order) = ⊥
HelpsUnlessFull (Err CommandLine) = ⊥
HelpsUnlessFull (Err Memory) = Unit {0}

-- the result is the version, or memory ran out
abbrev pub IsVersionUnlessFull : Result Order LineFault → Type 0
IsVersionUnlessFull (Ok Version) = Unit {0}
IsVersionUnlessFull (Ok order) = ⊥
IsVersionUnlessFull (Err CommandLine) = ⊥
IsVersionUnlessFull (Err Memory) = Unit {0}
