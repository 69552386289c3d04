-- Datagrams that have a header.
use Rattle.std.proofs.Common.{List, ℕ}
use Rattle.kd_options.specs.Message.{Reads, Seen}
use Rattle.kd_server.specs.Server.{HasHeader}

-- what reads as a message has a header
pub message_headed : (bytes : List ℕ) (m : Seen) → Reads bytes m → HasHeader bytes
message_headed bytes m reads = (m.header, reads.header)
