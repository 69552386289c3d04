-- What a trial of a database or a socket finds. Which files are at a path, and which locks are held,
-- is in no clause; what a system gives for an address and a port is a relation.
use Rattle.std.specs.Prelude.{◌≡◌, ℕ, ◌==◌, ◌||◌, Bool, IfErr, IsOkAnd, IsTrue, List, Err, Ok, Result, bytes_eq, codes, length, nat_eq}
use Rattle.std.specs.IoError.{error_kind}
use Rattle.std.specs.List.{starts_with}
use Rattle.std.specs.declared.io.Error.{Error}
use Rattle.std.specs.declared.io.ErrorKind.{ErrorKind}
use Rattle.std.specs.declared.io.ErrorKind.TheVariants as kinds
use Rattle.std.specs.declared.net.udp.UdpSocket.{UdpSocket}
use Rattle.kd_io.specs.declared.system.System.{Ghosts as Systems}
use Rattle.kd_trouble.specs.declared.troubles.SocketTrouble.{SocketTrouble}
use Rattle.kd_trouble.specs.declared.troubles.SocketTrouble.TheVariants as sockets
use Rattle.kd_trouble.specs.declared.troubles.StoreTrouble.{StoreTrouble}
use Rattle.kd_trouble.specs.declared.troubles.StoreTrouble.TheVariants as stores

-- a path that SQLite does not take as that of a file
abbrev pub names_no_file : List ℕ → Bool
names_no_file path =
    length path == 0 || bytes_eq path (codes ":memory:") || starts_with nat_eq path (codes "file:")

-- the trouble with a store that an error of the system means
abbrev pub store_trouble_of : ErrorKind → StoreTrouble
store_trouble_of kinds.PermissionDenied = stores.Denied
store_trouble_of kind = stores.Other

-- a trouble that shows without a look into a database
abbrev pub IsOutside : StoreTrouble → Type 0
IsOutside stores.Locked = Unit {0}
IsOutside stores.Schema = ⊥
IsOutside stores.Damaged = ⊥
IsOutside stores.Denied = Unit {0}
IsOutside stores.NoFolder = Unit {0}
IsOutside stores.Other = Unit {0}

-- what a trial of the database at a path finds: whether it exists, or a trouble that shows from
-- outside; a path that names no file cannot be opened
abbrev pub IsStoreTrial : List ℕ → Result Bool StoreTrouble → Type 0
IsStoreTrial path answer =
    (IsTrue (names_no_file path) → answer ≡ Err stores.Other) × IfErr answer IsOutside

-- the trouble with a socket that an error of the system means
abbrev pub socket_trouble_of : ErrorKind → SocketTrouble
socket_trouble_of kinds.AddrInUse = sockets.Taken
socket_trouble_of kinds.PermissionDenied = sockets.Denied
socket_trouble_of kinds.AddrNotAvailable = sockets.NoSuchAddress
socket_trouble_of kind = sockets.Other

-- over a system
module _ {S : Type 0} (s : Systems S) where
  -- what a trial finds of what came of opening a socket: whether it has a route to all hosts of its
  -- link, or the trouble that the error means
  abbrev pub IsFoundOf : S → Result UdpSocket Error → Result Bool SocketTrouble → Type 0
  IsFoundOf system (Ok socket) answer = IsOkAnd answer (s.routes system socket)
  IsFoundOf system (Err error) answer = answer ≡ Err (socket_trouble_of (error_kind error))

  -- what a trial of a socket at an address and a port finds
  abbrev pub IsSocketTrial : S → ℕ → ℕ → Result Bool SocketTrouble → Type 0
  IsSocketTrial system address port answer =
      (given : Result UdpSocket Error) × s.opens system address port given
      × IsFoundOf system given answer
