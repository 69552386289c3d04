use Rattle.std.proofs.Common.{◌≡◌, ◌++◌, take}
use Rattle.std.specs.List.{flat_map}
use Rattle.kd_lease.specs.Cuts.{cuts_of_pool}
use Rattle.kd_lease.proofs.cuts.put_cuts.Given as goal

abbrev pub invariant-loop-pool : goal.invariant-loop-pool
invariant-loop-pool l = l.cuts.items ≡ l.initial.cuts.items ++ flat_map cuts_of_pool (take l.pool-index l.initial.pools)
