use Rattle.std.proofs.Common.{◌≡◌, ◌-◌, map, take, length}
use Rattle.kd_listing.specs.Leases.{lease_of_row}
use Rattle.kd_listing.proofs.leases.leases_in.Given as goal

abbrev pub invariant-loop-row : goal.invariant-loop-row
invariant-loop-row l = l.list.items ≡ map (lease_of_row l.now) (take l.index l.rows.rows)

abbrev pub decreases-loop-row : goal.decreases-loop-row
decreases-loop-row l = length l.rows.rows - l.index
