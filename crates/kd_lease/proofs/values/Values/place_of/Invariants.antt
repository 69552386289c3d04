use Rattle.std.proofs.Common.{ℕ, ◌+◌, drop}
use Rattle.kd_lease.specs.Valuing.{IsCodePlace}
use Rattle.kd_lease.proofs.values.Values.place_of.Given as goal

-- a place found after the entries that were passed is a place in the whole list
abbrev pub invariant-loop-place : goal.invariant-loop-place
invariant-loop-place l = (more : ℕ) → IsCodePlace l.code (drop l.place l.self.list.items) more → IsCodePlace l.code l.self.list.items (l.place + more)
