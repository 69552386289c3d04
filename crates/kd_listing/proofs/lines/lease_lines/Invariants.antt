use Rattle.std.proofs.Common.{◌≡◌, take}
use Rattle.std.specs.Prelude.{string_bytes}
use Rattle.std.specs.List.{flat_map}
use Rattle.kd_listing.specs.Leases.{lease_line}
use Rattle.kd_listing.proofs.lines.lease_lines.Given as goal

abbrev pub invariant-loop-lease : goal.invariant-loop-lease
invariant-loop-lease l = string_bytes l.out ≡ flat_map lease_line (take l.lease-index l.leases)
