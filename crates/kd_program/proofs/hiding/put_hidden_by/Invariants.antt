use Rattle.std.proofs.Common.{◌≡◌, ◌++◌, take}
use Rattle.std.specs.Prelude.{string_bytes}
use Rattle.std.specs.List.{flat_map}
use Rattle.kd_program.specs.Advice.{hidden_note}
use Rattle.kd_program.proofs.hiding.put_hidden_by.Given as goal

abbrev pub invariant-loop-other : goal.invariant-loop-other
invariant-loop-other l = string_bytes l.text ≡ string_bytes l.initial.text ++ flat_map (hidden_note l.name l.subnet) (take l.other-index l.others)
