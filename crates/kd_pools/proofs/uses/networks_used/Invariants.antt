use Rattle.std.proofs.Common.{◌≡◌, ◌+◌, map}
use Rattle.std.specs.List.{range_with_len}
use Rattle.kd_pools.specs.Uses.{network_use}
use Rattle.kd_pools.proofs.uses.networks_used.Given as goal

abbrev pub invariant-loop-i : goal.invariant-loop-i
invariant-loop-i l = l.networks.items ≡ map (λ i. network_use l.uses (i + 1)) (range_with_len 0 l.i)
