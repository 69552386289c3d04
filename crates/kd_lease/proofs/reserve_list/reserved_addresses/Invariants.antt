use Rattle.std.proofs.Common.{◌≡◌, take}
use Rattle.std.specs.List.{flat_map}
use Rattle.kd_config.specs.Rules.{reserved}
use Rattle.kd_lease.proofs.reserve_list.reserved_addresses.Given as goal

abbrev pub invariant-loop-subnet : goal.invariant-loop-subnet
invariant-loop-subnet l = l.addresses.items ≡ flat_map (λ subnet. reserved subnet.reservations) (take l.subnet-index l.subnet-items)
