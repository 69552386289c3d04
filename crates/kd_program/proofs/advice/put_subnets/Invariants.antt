use Rattle.std.proofs.Common.{◌≡◌, ◌++◌, take}
use Rattle.std.specs.Prelude.{string_bytes}
use Rattle.std.specs.List.{flat_map}
use Rattle.kd_program.specs.Advice.{subnet_advice}
use Rattle.kd_program.proofs.advice.put_subnets.Given as goal

abbrev pub invariant-loop-subnet : goal.invariant-loop-subnet
invariant-loop-subnet l = string_bytes l.text ≡ string_bytes l.initial.text ++ flat_map (subnet_advice l.name l.config) (take l.subnet-index l.config.subnets)
