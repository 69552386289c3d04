use Rattle.std.proofs.Common.{◌≡◌, ◌+◌, map}
use Rattle.std.specs.List.{range_with_len}
use Rattle.kd_config.specs.Networks.{network_of}
use Rattle.kd_config.proofs.networks.networks_of.Given as goal

abbrev pub invariant-loop-i : goal.invariant-loop-i
invariant-loop-i l = l.networks.items ≡ map (λ i. network_of l.subnets (i + 1)) (range_with_len 0 l.i)
