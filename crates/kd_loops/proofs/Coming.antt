-- What comes over a link that does not report it.
use Rattle.std.proofs.Common.{ℕ, ◌≤◌, Bool, List, None, arith, take, refl, sym}
use Rattle.std.proofs.lemmas.List.{take_all, length-take}
use Rattle.kd_loops.specs.Trace.{Comes}

-- some datagram has come, and this is the part of it for which there is room
pub came_unknown : (waited : Bool) (room n : ℕ) (bytes : List ℕ) → n ≤ room → Comes waited None None room (take n bytes)
came_unknown waited room n bytes less = record { datagram = take n bytes; grows = refl; cut = sym (take_all room (take n bytes) (omega (arith, length-take n bytes, less))) }
