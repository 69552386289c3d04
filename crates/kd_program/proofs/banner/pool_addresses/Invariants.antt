use Rattle.std.proofs.Common.{◌≡◌, ◌-◌, ◌^◌, min, take}
use Rattle.std.specs.List.{sum_by}
use Rattle.kd_program.specs.Banner.{subnet_size}
use Rattle.kd_program.proofs.banner.pool_addresses.Given as goal

abbrev pub invariant-loop-subnet : goal.invariant-loop-subnet
invariant-loop-subnet l = l.sum ≡ min (sum_by subnet_size (take l.subnet-index l.subnets)) (2 ^ 64 - 1)
