use Rattle.std.proofs.Common.{◌≡◌, ◌++◌, drop}
use Rattle.std.specs.List.{flat_map}
use Rattle.kd_keys.specs.Parts.{parts_of}
use Rattle.kd_keys.proofs.parts.parts_in.Given as goal

abbrev pub invariant-loop-pool : goal.invariant-loop-pool
invariant-loop-pool l =
    l.parts.items ++ flat_map parts_of (drop l.pool-index l.pools) ≡ flat_map parts_of l.pools
