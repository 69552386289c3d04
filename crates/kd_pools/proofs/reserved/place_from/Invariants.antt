use Rattle.std.proofs.Common.{◌-◌, length}
use Rattle.kd_pools.specs.Walking.{PassesBelow}
use Rattle.kd_pools.proofs.reserved.place_from.Given as goal

abbrev pub invariant-below : goal.invariant-below
invariant-below l = PassesBelow l.list l.place l.address

abbrev pub decreases-below : goal.decreases-below
decreases-below l = length l.list - l.place
