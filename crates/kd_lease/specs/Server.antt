-- The server as its clients know it: by its address, or by the identifier that their relay sets
-- (RFC 2131 section 4.3.1; RFC 5107 section 4).
use Rattle.std.specs.Prelude.{ℕ, Bool, false, not, ◌&&◌, ◌==◌, Option, Some, None, if◌then◌else◌}
use Rattle.kd_config.specs.Configuration.{Configuration}
use Rattle.kd_options.specs.Message.{Seen}
use Rattle.kd_lease.specs.Client.{address_or, named_server, set_identifier}

-- the identifier that the relay of a message sets, in configurations that let relays do so
abbrev pub identifier_set : Configuration → Seen → Option ℕ
identifier_set config m =
    if config.extensions.sets_server && not (m.header.giaddr == 0) then set_identifier m else None

-- the server identifier of a reply: the one that the relay sets, or else the server's address
abbrev pub server_identifier : Configuration → Seen → ℕ
server_identifier config m = address_or (identifier_set config m) config.server

-- a message names a server, and not this one
abbrev pub other_server : ℕ → Option ℕ → Bool
other_server server None = false
other_server server (Some named) = not (named == server)

-- a message names a server that is not this one, neither by its address nor by the identifier that
-- the relay sets
abbrev pub names_another : Configuration → Seen → Bool
names_another config m =
    other_server config.server (named_server m)
    && other_server (server_identifier config m) (named_server m)
