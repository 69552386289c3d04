-- The troubles of a start, in words: with a file, the database, or the socket.
use Rattle.std.specs.Prelude.{ℕ, List, codes}
use Rattle.kd_trouble.specs.declared.troubles.FileTrouble.{FileTrouble}
use Rattle.kd_trouble.specs.declared.troubles.FileTrouble.TheVariants as file
use Rattle.kd_trouble.specs.declared.troubles.SocketTrouble.{SocketTrouble}
use Rattle.kd_trouble.specs.declared.troubles.SocketTrouble.TheVariants as socket
use Rattle.kd_trouble.specs.declared.troubles.StoreTrouble.{StoreTrouble}
use Rattle.kd_trouble.specs.declared.troubles.StoreTrouble.TheVariants as store

-- why a file cannot be read
abbrev pub file_trouble_words : FileTrouble → List ℕ
file_trouble_words file.Absent = codes "there is no such file"
file_trouble_words file.Denied = codes "this account may not read it"
file_trouble_words file.IsFolder = codes "it is a folder"
file_trouble_words file.TooLarge = codes "it has more than 16777216 bytes"
file_trouble_words file.Other = codes "it can't be read"

-- why a database cannot be opened
abbrev pub store_trouble_words : StoreTrouble → List ℕ
store_trouble_words store.Locked = codes "another process has it open"
store_trouble_words store.Schema = codes "its table lease is not the one that kdhcp makes"
store_trouble_words store.Damaged = codes "it is damaged"
store_trouble_words store.Denied = codes "this account may not read and write it"
store_trouble_words store.NoFolder = codes "there is no such folder"
store_trouble_words store.Other = codes "it can't be opened"

-- why a socket cannot be opened
abbrev pub socket_trouble_words : SocketTrouble → List ℕ
socket_trouble_words socket.Taken = codes "another process has this port"
socket_trouble_words socket.Denied = codes "this account may not take this port"
socket_trouble_words socket.NoSuchAddress = codes "this machine has no such address"
socket_trouble_words socket.Other = codes "it can't be opened"
