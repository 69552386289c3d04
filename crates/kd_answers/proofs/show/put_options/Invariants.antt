use Rattle.std.proofs.Common.{◌≡◌, ◌-◌, ◌++◌, take, length}
use Rattle.std.specs.Prelude.{string_bytes}
use Rattle.std.specs.List.{flat_map}
use Rattle.kd_answers.specs.Show.{option_lines}
use Rattle.kd_answers.proofs.show.put_options.Given as goal

abbrev pub invariant-loop-code : goal.invariant-loop-code
invariant-loop-code l =
    string_bytes l.out ≡ string_bytes l.initial.out ++ flat_map (option_lines l.names) (take l.index l.message.options)

abbrev pub decreases-loop-code : goal.decreases-loop-code
decreases-loop-code l = length l.message.options - l.index
