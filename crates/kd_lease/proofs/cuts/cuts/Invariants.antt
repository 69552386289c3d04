use Rattle.std.proofs.Common.{◌≡◌, take}
use Rattle.std.specs.List.{flat_map}
use Rattle.kd_lease.specs.Cuts.{cuts_of_pool}
use Rattle.kd_lease.proofs.cuts.cuts.Given as goal

abbrev pub invariant-loop-subnet : goal.invariant-loop-subnet
invariant-loop-subnet l = l.cuts.items ≡ flat_map (λ subnet. flat_map cuts_of_pool subnet.pools) (take l.subnet-index l.subnet-items)
