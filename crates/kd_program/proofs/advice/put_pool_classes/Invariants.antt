use Rattle.std.proofs.Common.{◌≡◌, ◌++◌, take}
use Rattle.std.specs.Prelude.{string_bytes}
use Rattle.std.specs.List.{flat_map}
use Rattle.kd_program.specs.Advice.{required_note}
use Rattle.kd_program.proofs.advice.put_pool_classes.Given as goal

abbrev pub invariant-loop-class : goal.invariant-loop-class
invariant-loop-class l = string_bytes l.text ≡ string_bytes l.initial.text ++ flat_map (required_note l.name l.config l.pool) (take l.class-index l.pool.classes)
