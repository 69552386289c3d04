-- What a check of a start prints.
use Rattle.std.specs.Prelude.{◌≡◌, ℕ, ◌-◌, ◌==◌, ◌&&◌, ◌||◌, Bool, true, false, if◌then◌else◌, nat_le, nat_lt}
use Rattle.std.specs.Prelude.{IsTrue, List, [], ◌∷◌, ◌++◌, Option, None, Some, Result, Ok, Err, codes, decimal, option_map, string_bytes}
use Rattle.std.specs.List.{flat_map, list_all}
use Rattle.kd_program.specs.Advice.{IsAboutConfig}
use Rattle.kd_config.specs.Configuration.{Configuration}
use Rattle.kd_trouble.specs.declared.fault.StartFault.{StartFault}
use Rattle.kd_trouble.specs.Troubles.{socket_trouble_words, store_trouble_words}
use Rattle.kd_trouble.specs.declared.troubles.SocketTrouble.{SocketTrouble}
use Rattle.kd_trouble.specs.declared.troubles.StoreTrouble.TheVariants as troubles
use Rattle.kd_io.specs.declared.look.LookFault.{LookFault}
use Rattle.kd_io.specs.declared.look.LookFault.TheVariants as looks
use Rattle.kd_keeps.specs.declared.fault.StoreFault.TheVariants as stores
use Rattle.kd_names.specs.Values.{sign_text}
use Rattle.kd_program.specs.Banner.{place_text}
use Rattle.kd_commands.specs.declared.orders.Files.{Files}
use Rattle.kd_commands.specs.declared.orders.Place.{Place}
use Rattle.kd_program.specs.declared.checking.SeenRows.{SeenRows}
use Rattle.kd_program.specs.declared.checking.StoreFinding.{StoreFinding}
use Rattle.kd_program.specs.declared.checking.StoreFinding.TheVariants as findings
use Rattle.kd_program.specs.declared.host.Host.{Ghosts as Hosts}

-- a byte that a terminal shows: a line feed, or a printable sign of ASCII
abbrev pub is_shown : ℕ → Bool
is_shown byte = byte == 10 || (nat_le 32 byte && nat_le byte 126)

-- each byte of a text is one that a terminal shows
abbrev pub IsPlain : List ℕ → Type 0
IsPlain text = IsTrue (list_all is_shown text)

-- a byte as a terminal may show it: itself, or `\x` and two hexadecimal digits
unfoldable pub plain_byte : ℕ → List ℕ
plain_byte byte = if is_shown byte then byte ∷ [] else sign_text byte

-- a text as a terminal may show it
abbrev pub shown_text : List ℕ → List ℕ
shown_text text = flat_map plain_byte text

-- how far a time is ahead of the clock, if it is
unfoldable pub ahead_text : ℕ → ℕ → List ℕ
ahead_text latest moment =
    if nat_lt moment latest
    then codes ", which is " ++ decimal (latest - moment) ++ codes " seconds ahead of the clock"
    else []

-- that a server would not start with this clock
abbrev pub behind_text : Bool → List ℕ
behind_text true = codes ", more than --max-ahead"
behind_text false = []

-- what is printed about some rows: their number, the latest change, and the clock if it is behind
-- that
unfoldable pub seen_rows_text : SeenRows → List ℕ
seen_rows_text seen =
    codes ": leases " ++ decimal seen.count ++ codes ", latest change " ++ decimal seen.latest
    ++ ahead_text seen.latest seen.moment ++ behind_text seen.is_behind

-- what is printed about rows that were read
abbrev pub seen_text : SeenRows → List ℕ
seen_text seen = if seen.count == 0 then codes ": leases 0, latest change -" else seen_rows_text seen

-- why the rows of a database are not read
abbrev pub unread_reason : LookFault → List ℕ
unread_reason (looks.Input fault) = codes "its files can't be read"
unread_reason looks.Unsettled = codes "it was changed at each try, try again"
unread_reason looks.NoTable = codes "no table of leases yet, serve makes it"
unread_reason (looks.Store stores.Schema) = store_trouble_words troubles.Schema
unread_reason (looks.Store (stores.Sql cause)) = codes "it is no database, or damaged"

-- what is printed about a store
unfoldable pub finding_text : StoreFinding → List ℕ
finding_text findings.Unasked = []
finding_text findings.New =
    codes ": not there yet, serve makes it if this account may write in its folder"
finding_text (findings.Trouble trouble) = codes ": " ++ store_trouble_words trouble
finding_text (findings.Unread fault) = codes ": " ++ unread_reason fault
finding_text findings.Memory = codes ": out of memory"
finding_text (findings.Open seen) = seen_text seen

-- the line about a store with a name
unfoldable pub store_line : List ℕ → StoreFinding → List ℕ
store_line name finding = name ++ finding_text finding ++ codes "\n"

-- the line about a log of which a start leaves out bytes because it is damaged
unfoldable pub damaged_line : List ℕ → ℕ → List ℕ
damaged_line name bytes =
    name ++ codes "-wal: damaged, serve leaves out the " ++ decimal bytes
    ++ codes " bytes behind its last good commit\n"

-- the line about a log of which a start leaves out bytes because there is no table yet
unfoldable pub unused_line : List ℕ → ℕ → List ℕ
unused_line name bytes =
    name ++ codes "-wal: serve leaves out " ++ decimal bytes ++ codes " bytes of it\n"

-- the line about the log of a store with a name, if a start leaves out bytes of it
abbrev pub log_line : List ℕ → StoreFinding → Option ℕ → List ℕ
log_line name (findings.Open seen) (Some bytes) = damaged_line name bytes
log_line name (findings.Unread looks.NoTable) (Some bytes) = unused_line name bytes
log_line name finding left_out = []

-- the lines about the store at a path, if there is a path
unfoldable pub store_lines : Option (List ℕ) → StoreFinding → Option ℕ → List ℕ
store_lines None finding left_out = []
store_lines (Some path) finding left_out =
    let name = flat_map sign_text path in store_line name finding ++ log_line name finding left_out

-- whether a socket is free, or why it cannot be opened
abbrev pub socket_text : Result Bool SocketTrouble → List ℕ
socket_text (Ok true) = codes "free\n"
socket_text (Ok false) =
    codes "free\n255.255.255.255: there is no route, so clients without an address get no answer, unless the socket unit names their link (BindToDevice)\n"
socket_text (Err trouble) = socket_trouble_words trouble ++ codes "\n"

-- the lines about the socket at an address and a port
unfoldable pub socket_lines : Place → Result Bool SocketTrouble → List ℕ
socket_lines place answer = place_text place.bind place.port ++ codes ": " ++ socket_text answer

-- over a host
module _ {H N U L R : Type 0} (h : Hosts H N U L R) where
  -- how many bytes of the log of the store at a path the host leaves out, if any, and if there is a
  -- path
  abbrev pub IsLeftOut : H → Option (List ℕ) → Option ℕ → Type 0
  IsLeftOut host None count = count ≡ None
  IsLeftOut host (Some path) count = h.leaves_out host path count

  -- a report of a configuration: what is said of the configuration of these files, as a terminal may
  -- show it
  pub record IsTestReport (host : H) (files : Files) (config : Result Configuration StartFault)
      (report : List ℕ) : Type 0 where
    pub about_config : List ℕ
    pub configured : IsAboutConfig h host files config about_config
    pub shown : report ≡ shown_text about_config
    pub plain : IsPlain report

  -- a report: what is said of the configuration of these files, the lines about the store, if there
  -- is a path, and those about the socket, as a terminal may show them
  pub record IsCheckReport (host : H) (files : Files) (config : Result Configuration StartFault)
      (store : StoreFinding) (place : Place) (socket : Result Bool SocketTrouble)
      (report : List ℕ) : Type 0 where
    pub about_config : List ℕ
    pub configured : IsAboutConfig h host files config about_config
    pub left_out : Option ℕ
    pub is_left_out : IsLeftOut host (option_map string_bytes files.store) left_out
    pub shown : report
        ≡ shown_text (about_config
        ++ store_lines (option_map string_bytes files.store) store left_out
        ++ socket_lines place socket)
    pub plain : IsPlain report
