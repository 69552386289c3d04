use Rattle.std.proofs.Common.{◌≡◌, ◌++◌, take}
use Rattle.std.specs.Prelude.{string_bytes}
use Rattle.std.specs.List.{flat_map}
use Rattle.kd_explain.specs.FoundLines.{keeping_line}
use Rattle.kd_explain.proofs.subnet_lines.put_keeping.Given as goal

abbrev pub invariant-loop-subnet : goal.invariant-loop-subnet
invariant-loop-subnet l = string_bytes l.out ≡ string_bytes l.initial.out ++ flat_map (keeping_line l.address) (take l.subnet-index l.subnets)
